use Rattle.std.proofs.Common.{◌≡◌, vec_len}
use Rattle.batch_pool.proofs.places.places_for.Given as goal

abbrev pub invariant-loop-item : goal.invariant-loop-item
invariant-loop-item g l = vec_len l.places ≡ l._item
