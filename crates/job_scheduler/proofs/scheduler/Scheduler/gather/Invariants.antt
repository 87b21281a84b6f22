use Rattle.std.proofs.Common.{◌≡◌, ◌+◌, length}
use Rattle.goal_board.specs.Seats.{hands}
use Rattle.job_scheduler.specs.Crews.{IsOfCrew, AreWorked, ShowsEnd, parts_of}
use Rattle.job_scheduler.proofs.scheduler.Scheduler.gather.Given as goal

-- the worker and those that are left are of the crew, and have all parts
abbrev pub invariant-loop-other : goal.invariant-loop-other
invariant-loop-other g l = IsOfCrew g.R.GoalRules.meaning l.self.board l.self.root l.self.goal l._n l.worker
    × ShowsEnd (hands l.worker.seat).looks l.self.root
    × AreWorked g.R.GoalRules.meaning l.self.board l.self.root l.self.goal l._n l.crew.items
    × ((hands l.worker.seat).parts + parts_of l.crew.items ≡ 64)

abbrev pub decreases-loop-other : goal.decreases-loop-other
decreases-loop-other g l = length l.crew.items
