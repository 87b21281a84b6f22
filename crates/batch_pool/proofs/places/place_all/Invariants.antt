use Rattle.std.proofs.Common.{◌≡◌, ℕ, ◌<◌}
use Rattle.std.specs.Prelude.{slice_get, vec_len}
use Rattle.batch_pool.specs.Runs.{AreOutputs, HoldsResult, times_run}
use Rattle.batch_pool.proofs.places.place_all.Given as goal

-- what was taken out of the list stands in its place, and what stood in its place before still does
abbrev pub invariant-loop-one : goal.invariant-loop-one
invariant-loop-one g l = (vec_len l.places ≡ vec_len l.initial.places)
    × AreOutputs (g.B.Batch.items l._batch) (g.B.Batch.gives l._batch) l.ran.items
    × ((k : ℕ) → times_run k l.ran.items < times_run k l.initial.ran.items
    → HoldsResult (g.B.Batch.gives l._batch) l._workers k (slice_get l.places.items k))
    × ((k : ℕ) → HoldsResult (g.B.Batch.gives l._batch) l._workers k (slice_get l.initial.places.items k)
    → HoldsResult (g.B.Batch.gives l._batch) l._workers k (slice_get l.places.items k))

abbrev pub decreases-loop-one : goal.decreases-loop-one
decreases-loop-one g l = vec_len l.ran
