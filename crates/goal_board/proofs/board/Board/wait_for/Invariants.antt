use Rattle.std.proofs.Common.{◌≡◌, ◌+◌, ◌-◌, ◌*◌, ◌/◌, ◌^◌}
use Rattle.goal_board.specs.Seats.{IsInCall, hands}
use Rattle.goal_board.proofs.Putting.{IsPutting}
use Rattle.goal_board.proofs.board.Board.wait_for.Given as goal

-- the wait is being put in, for the child's head as it was seen last
abbrev pub invariant-loop-head : goal.invariant-loop-head
invariant-loop-head g l = record {
  seat : IsInCall g.R.GoalRules.meaning l.self l.seat;
  putting : IsPutting l.self.setup.capacity (hands l.fn.seat) l.waiter l.child_at l.head (hands l.seat);
  right : l.right ≡ l.fn.right;
}

-- each head that is found comes nearer to the most waiters that there can be, or is closed
abbrev pub decreases-loop-head : goal.decreases-loop-head
decreases-loop-head g l = 8 * l.self.setup.capacity + 1 - l.head / 2 ^ 24
