-- No goal at a place before this one is ready.
use Rattle.std.proofs.Common.{None}
use Rattle.goal_board.specs.Closed.{IsFirstReady}
use Rattle.goal_board.specs.Closing.{mem_of}
use Rattle.goal_board.proofs.closing.ClosedBoard.ready.Given as goal

abbrev pub invariant-loop-place : goal.invariant-loop-place
invariant-loop-place g l = IsFirstReady (g.R.GoalRules.meaning l.rules) (mem_of l.self) l.place None
