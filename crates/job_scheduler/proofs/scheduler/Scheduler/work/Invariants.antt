use Rattle.std.proofs.Common.{◌≡◌}
use Rattle.goal_board.specs.Seats.{hands}
use Rattle.job_scheduler.specs.Crews.{IsOfCrew}
use Rattle.job_scheduler.proofs.scheduler.Scheduler.work.Given as goal

-- the worker is of the crew, and has its parts
abbrev pub invariant-loop-step : goal.invariant-loop-step
invariant-loop-step g l = IsOfCrew g.R.GoalRules.meaning l.self.board l.self.root l.self.goal l._n l.worker
    × ((hands l.worker.seat).parts ≡ (hands l.initial.worker.seat).parts)
