-- The pass has come to a word.
use Rattle.goal_board.specs.Seats.{IsSeatOf, hands}
use Rattle.board_moves.proofs.Ascending.{left_above}
use Rattle.board_moves.proofs.Passing.{Passing}
use Rattle.board_moves.proofs.collection.count.Given as goal

abbrev pub invariant-loop-word : goal.invariant-loop-word
invariant-loop-word g l = record {
  seat : IsSeatOf g.R.GoalRules.meaning l.board l.seat;
  pass : Passing (g.R.GoalRules.meaning l.board.setup.rules) l.board.setup.capacity (g.W.Words.has l.group)
      (hands l.initial.seat) l.before l.number (hands l.seat);
}

abbrev pub decreases-loop-word : goal.decreases-loop-word
decreases-loop-word g l = left_above l.before
