-- The pass has come to a word.
use Rattle.std.proofs.Common.{◌≡◌}
use Rattle.goal_board.specs.Seats.{IsSeatOf, hands}
use Rattle.goal_board.specs.RightCalls.{IsRightOf}
use Rattle.board_moves.proofs.Ascending.{left_above}
use Rattle.board_moves.proofs.Rounds.{Awaiting}
use Rattle.board_moves.proofs.awaiting.await_found.Given as goal

abbrev pub invariant-loop-word : goal.invariant-loop-word
invariant-loop-word g l = record {
  seat : IsSeatOf g.R.GoalRules.meaning l.board l.seat;
  right : IsRightOf (g.R.GoalRules.meaning l.board.setup.rules) l.board.setup.capacity (hands l.seat) l.job.right;
  hints : g.H.Hints.capacity l.hints ≡ l.board.setup.capacity;
  awaiting : Awaiting (g.R.GoalRules.meaning l.board.setup.rules) l.board.setup.capacity (g.M.Words.has l.members)
      (g.M.Members.goal_of l.members) (hands l.initial.seat) l.initial.job.right l.before l.number (hands l.seat)
      l.job.right;
}

abbrev pub decreases-loop-word : goal.decreases-loop-word
decreases-loop-word g l = left_above l.before
