use Rattle.std.proofs.Common.{◌≡◌, ◌+◌, All}
use Rattle.goal_board.specs.Seats.{hands}
use Rattle.job_scheduler.specs.Crews.{IsOfCrew, parts_of}
use Rattle.job_scheduler.proofs.scheduler.Scheduler.hire.Given as goal

-- each worker so far is of the crew and has one part, and the first one has the rest
abbrev pub invariant-loop-number : goal.invariant-loop-number
invariant-loop-number g l = IsOfCrew g.R.GoalRules.meaning l.self.board l.self.root l.self.goal l.n l.first
    × All (IsOfCrew g.R.GoalRules.meaning l.self.board l.self.root l.self.goal l.n) l.crew.items
    × ((hands l.first.seat).parts + l.number ≡ 65)
    × (parts_of l.crew.items + (hands l.first.seat).parts ≡ 64)
