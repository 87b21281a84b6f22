use Rattle.std.proofs.Common.{◌≡◌}
use Rattle.goal_board.specs.Seats.{hands}
use Rattle.job_scheduler.specs.Workers.{IsWorkerOf, OnlyLooked}
use Rattle.job_scheduler.proofs.scheduler.Scheduler.claim_stolen.Given as goal

-- the worker is the same, and has only looked so far
abbrev pub invariant-loop-other : goal.invariant-loop-other
invariant-loop-other g l = IsWorkerOf g.R.GoalRules.meaning l.self.board l.self.root l.self.goal l.worker
    × (l.worker.number ≡ l.initial.worker.number)
    × OnlyLooked (hands l.initial.worker.seat) (hands l.worker.seat)
