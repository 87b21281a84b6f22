use Rattle.std.proofs.Common.{◌≡◌, ◌+◌, All}
use Rattle.std.specs.Prelude.{vec_len}
use Rattle.batch_pool.specs.Queues.{view_of, IsPassOf}
use Rattle.batch_pool.specs.Runs.{IsReturned, ArePlaced, returned_parts, returned_pushes}
use Rattle.batch_pool.proofs.crew.gather.Given as goal

-- the pass and those that are left have all parts and pushes, and what the pass took stands in its place
abbrev pub invariant-loop-other : goal.invariant-loop-other
invariant-loop-other g l = IsPassOf l.queue l.pass
    × All (IsReturned (g.B.Batch.items l.batch) (g.B.Batch.gives l.batch) l.queue l._workers) l.crew.items
    × ((view_of l.pass).parts + returned_parts l.crew.items ≡ 64)
    × ((view_of l.pass).pushed + returned_pushes l.crew.items ≡ g.B.Batch.items l.batch)
    × (vec_len l.places ≡ g.B.Batch.items l.batch)
    × ArePlaced (g.B.Batch.items l.batch) (g.B.Batch.gives l.batch) l._workers (view_of l.pass).taken l.places.items

abbrev pub decreases-loop-other : goal.decreases-loop-other
decreases-loop-other g l = vec_len l.crew
