-- A round knows so many members, and the goal has no wait.
use Rattle.std.proofs.Common.{◌≡◌, ◌-◌, ◌^◌}
use Rattle.board_rule.specs.Looks.{ShowsEntry}
use Rattle.goal_board.specs.Seats.{IsSeatOf, hands}
use Rattle.goal_board.specs.RightCalls.{IsRightOf}
use Rattle.board_moves.specs.Moves.{Proceeds}
use Rattle.board_moves.proofs.Rounds.{Knows}
use Rattle.board_moves.proofs.exploring.explore_members.Given as goal

abbrev pub invariant-rounds : goal.invariant-rounds
invariant-rounds g l = record {
  seat : IsSeatOf g.R.GoalRules.meaning l.board l.seat;
  right : IsRightOf (g.R.GoalRules.meaning l.board.setup.rules) l.board.setup.capacity (hands l.seat) l.job.right;
  no_wait : l.job.right.waits ≡ 0;
  hints : g.H.Hints.capacity l.hints ≡ l.board.setup.capacity;
  proceeds : Proceeds ((g.R.GoalRules.meaning l.board.setup.rules).child l.initial.job.right.goal)
      (hands l.initial.seat)
      l.initial.job.right (hands l.seat) l.job.right;
  origin : ShowsEntry (g.R.GoalRules.meaning l.board.setup.rules) l.board.setup.capacity (hands l.seat).looks
      (g.W.Group.origin l.group);
  knows : Knows (g.R.GoalRules.meaning l.board.setup.rules) l.board.setup.capacity (g.W.Words.has l.group)
      (g.W.Members.goal_of l.group) (hands l.seat).looks l.known;
}

abbrev pub decreases-rounds : goal.decreases-rounds
decreases-rounds g l = 2 ^ 64 - l.known
