use Rattle.std.proofs.Common.{◌≡◌, ◌+◌, All, []}
use Rattle.batch_pool.specs.Queues.{view_of, IsPassOf}
use Rattle.batch_pool.specs.Runs.{IsNewWorker, worker_parts, worker_pushes}
use Rattle.batch_pool.proofs.crew.hire.Given as goal

-- each so far is hired with one part, and the first pass has the rest and all pushes
abbrev pub invariant-loop-number : goal.invariant-loop-number
invariant-loop-number l = IsPassOf l.queue l.pass
    × ((view_of l.pass).taken ≡ [])
    × ((view_of l.pass).pushed ≡ (view_of l.initial.pass).pushed)
    × ((view_of l.pass).parts + l.number ≡ 65)
    × All (IsNewWorker l.queue l.n) l.crew.items
    × (worker_parts l.crew.items + (view_of l.pass).parts ≡ 64)
    × (worker_pushes l.crew.items ≡ 0)
