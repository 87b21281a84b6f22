use Rattle.std.proofs.Common.{◌≡◌, List, ℕ, Some}
use Rattle.goal_board.specs.Seats.{hands}
use Rattle.job_scheduler.specs.Crews.{IsOfCrew, work_alone_left}
use Rattle.job_scheduler.proofs.scheduler.Scheduler.work_alone.Given as goal

-- the worker is still alone, and has its parts
abbrev pub invariant-loop : goal.invariant-loop
invariant-loop g l = IsOfCrew g.R.GoalRules.meaning l.self.board l.self.root l.self.goal 1 l.worker
    × ((hands l.worker.seat).parts ≡ (hands l.initial.worker.seat).parts)
    × ((kept : List ℕ) × ((hands l.worker.seat).alone ≡ Some kept))

abbrev pub decreases-loop : goal.decreases-loop
decreases-loop g l = work_alone_left (g.R.GoalRules.meaning l.self.board.setup.rules) l.self.board.setup.capacity
    (hands l.worker.seat).alone
