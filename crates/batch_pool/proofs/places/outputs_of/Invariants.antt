use Rattle.std.proofs.Common.{◌≡◌, ℕ, ◌<◌, ◌++◌, length, All}
use Rattle.std.specs.Prelude.{slice_get, vec_len, Some}
use Rattle.std.specs.Vec.Iter.{into_iter_items}
use Rattle.batch_pool.proofs.places.outputs_of.Given as goal

-- what the items before gave, and who took them
abbrev pub invariant-loop-place : goal.invariant-loop-place
invariant-loop-place g l = (l.fn.places.items ≡ l.yielded ++ into_iter_items l.place-iterator)
    × (vec_len l.outputs ≡ length l.yielded)
    × (vec_len l.taken ≡ length l.yielded)
    × ((i : ℕ) (output : _) → slice_get l.outputs.items i ≡ Some output → g.B.Batch.gives l._batch i output)
    × All (λ worker. worker < l._workers) l.taken.items
