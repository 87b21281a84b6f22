-- The pass has come to a word, and the goals of those that it found are finished.
use Rattle.goal_board.specs.Seats.{IsSeatOf, hands}
use Rattle.board_moves.proofs.Ascending.{left_above}
use Rattle.board_moves.proofs.Passing.{Collecting}
use Rattle.board_moves.proofs.collection.collect.Given as goal

abbrev pub invariant-loop-word : goal.invariant-loop-word
invariant-loop-word g l = record {
  seat : IsSeatOf g.R.GoalRules.meaning l.board l.seat;
  pass : Collecting (g.R.GoalRules.meaning l.board.setup.rules) l.board.setup.capacity (g.W.Words.has l.group)
      (hands l.initial.seat) (g.W.Members.goal_of l.group) l.before l.number (hands l.seat);
}

abbrev pub decreases-loop-word : goal.decreases-loop-word
decreases-loop-word g l = left_above l.before
