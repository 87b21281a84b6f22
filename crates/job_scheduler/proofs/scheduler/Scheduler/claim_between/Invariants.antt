use Rattle.std.proofs.Common.{◌≡◌}
use Rattle.goal_board.specs.Seats.{hands}
use Rattle.job_scheduler.specs.Workers.{IsWorkerOf}
use Rattle.job_scheduler.specs.Claims.{FindsAllBusy}
use Rattle.job_scheduler.proofs.scheduler.Scheduler.claim_between.Given as goal

-- the worker is the same, and found all places so far busy
abbrev pub invariant-loop-at : goal.invariant-loop-at
invariant-loop-at g l = IsWorkerOf g.R.GoalRules.meaning l.self.board l.self.root l.self.goal l.worker
    × (l.worker.number ≡ l.initial.worker.number)
    × FindsAllBusy (g.R.GoalRules.meaning l.self.board.setup.rules) l.self.board.setup.capacity
    (hands l.initial.worker.seat)
    l.from l.at (hands l.worker.seat)
