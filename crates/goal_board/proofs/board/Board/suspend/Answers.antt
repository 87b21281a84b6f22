-- A right that was claimed is the seat's.
use Rattle.goal_board.specs.Seats.{hands}
use Rattle.goal_board.specs.RightCalls.{waiting_right}
use Rattle.goal_board.proofs.Finishing.{has_right}
use Rattle.goal_board.proofs.Findings.{suspends_ready, suspends_waiting}
use Rattle.goal_board.proofs.OthersKept.{suspend_keeps}
use Rattle.goal_board.proofs.board.Board.suspend.Goals as goal

pub release-requires-clause-may : goal.release-requires-clause-may
release-requires-clause-may g c κs within = record {
  has = has_right c.args.self.now.setup.capacity (hands c.args.seat.now).rights
      (waiting_right c.args.right.place c.args.right.waits) c.requires.right.near c.requires.right.held;
  free = c.requires.seat.free.no_wait;
}

pub returns-then-release-eq-HELD-clause-answer : goal.returns-then-release-eq-HELD-clause-answer
returns-then-release-eq-HELD-clause-answer g c =
    suspends_ready c.requires.seat.over c.release.ensures.told c.if-release-eq-HELD.true

pub returns-else-release-eq-HELD-clause-answer : goal.returns-else-release-eq-HELD-clause-answer
returns-else-release-eq-HELD-clause-answer g c =
    suspends_waiting c.requires.seat.over (record {
      has = has_right c.args.self.now.setup.capacity (hands c.args.seat.now).rights
          (waiting_right c.args.right.place c.args.right.waits) c.requires.right.near c.requires.right.held;
      free = c.requires.seat.free.no_wait;
    }) c.release.ensures.told c.if-release-eq-HELD.false

pub returns-then-release-eq-HELD-clause-others : goal.returns-then-release-eq-HELD-clause-others
returns-then-release-eq-HELD-clause-others g c = suspend_keeps (returns-then-release-eq-HELD-clause-answer g c)

pub returns-else-release-eq-HELD-clause-others : goal.returns-else-release-eq-HELD-clause-others
returns-else-release-eq-HELD-clause-others g c = suspend_keeps (returns-else-release-eq-HELD-clause-answer g c)
