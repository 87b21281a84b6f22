-- The finished goals before this place were counted.
use Rattle.std.proofs.Common.{◌≡◌, ◌≤◌, length}
use Rattle.goal_board.specs.Closed.{finished_below}
use Rattle.goal_board.specs.Closing.{mem_of}
use Rattle.goal_board.proofs.closing.ClosedBoard.finished_count.Given as goal

abbrev pub invariant-loop-place : goal.invariant-loop-place
invariant-loop-place l = record {
  counted : l.finished ≡ length (finished_below (mem_of l.self) l.place);
  few : l.finished ≤ l.place;
}
