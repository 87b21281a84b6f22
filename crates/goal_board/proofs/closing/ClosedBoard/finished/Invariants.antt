-- The finished goals before this place were read.
use Rattle.std.proofs.Common.{◌≡◌}
use Rattle.goal_board.specs.Closed.{finished_below}
use Rattle.goal_board.specs.Closing.{mem_of}
use Rattle.goal_board.proofs.closing.ClosedBoard.finished.Given as goal

abbrev pub invariant-loop-place : goal.invariant-loop-place
invariant-loop-place l = l.finished.items ≡ finished_below (mem_of l.self) l.place
