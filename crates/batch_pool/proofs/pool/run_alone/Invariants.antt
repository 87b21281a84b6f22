use Rattle.std.proofs.Common.{◌≡◌, ℕ, ◌<◌, All}
use Rattle.std.specs.Prelude.{slice_get, vec_len, Some}
use Rattle.batch_pool.proofs.pool.run_alone.Given as goal

-- the items before were run
abbrev pub invariant-loop-item : goal.invariant-loop-item
invariant-loop-item g l = (vec_len l.outputs ≡ l.item)
    × (vec_len l.taken ≡ l.item)
    × ((i : ℕ) (output : _) → slice_get l.outputs.items i ≡ Some output → g.B.Batch.gives l.batch i output)
    × All (λ worker. worker < 1) l.taken.items
