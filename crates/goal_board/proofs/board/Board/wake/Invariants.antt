use Rattle.std.proofs.Common.{◌≡◌, ◌+◌, ◌*◌, ◌<◌, ◌≤◌, length}
use Rattle.board_rule.specs.Waiters.{first_of}
use Rattle.board_rule.specs.Seats.{Each}
use Rattle.goal_board.specs.Seats.{IsInCall, hands}
use Rattle.goal_board.proofs.WokenLemmas.{HasWoken}
use Rattle.goal_board.proofs.board.Board.wake.Given as goal

-- the waiters that are left are named, and the goals that were made ready are counted
abbrev pub invariant-loop-name : goal.invariant-loop-name
invariant-loop-name g l = record {
  seat : IsInCall g.R.GoalRules.meaning l.self l.seat;
  named : l.name ≡ first_of (hands l.seat).walk.waiters;
  near : Each (λ q. q < 8 * l.self.setup.capacity) (hands l.seat).walk.waiters;
  few : l.woken.count + length (hands l.seat).walk.waiters ≤ 8 * l.self.setup.capacity;
  woken : HasWoken l.self.setup.capacity (hands l.initial.seat) l.woken.count l.woken.one (hands l.seat);
  hints : g.H.Hints.capacity l.hints ≡ l.self.setup.capacity;
}

abbrev pub decreases-loop-name : goal.decreases-loop-name
decreases-loop-name g l = length (hands l.seat).walk.waiters
