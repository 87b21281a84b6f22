-- The seat only looked, and passed no entry.
use Rattle.goal_board.specs.Seats.{IsSeatOf, hands}
use Rattle.board_moves.specs.Moves.{OnlyLooks, IsEntryOf}
use Rattle.board_moves.proofs.Ascending.{left_above, Passes}
use Rattle.board_moves.proofs.entries.next_entry.Given as goal

abbrev pub invariant-loop-word : goal.invariant-loop-word
invariant-loop-word g l = record {
  seat : IsSeatOf g.R.GoalRules.meaning l.board l.seat;
  looks : OnlyLooks (hands l.fn.seat) (hands l.seat);
  passes : Passes (IsEntryOf (g.R.GoalRules.meaning l.board.setup.rules) (g.W.Words.has l.words)) l.fn.before l.before;
}

abbrev pub decreases-loop-word : goal.decreases-loop-word
decreases-loop-word g l = left_above l.before
