-- The modes before this one were tried.
use Rattle.std.proofs.Common.{◌-◌}
use Rattle.goal_board.specs.Seats.{hands}
use Rattle.job_turns.specs.Searches.{StaysAtWork}
use Rattle.job_turns.specs.Choices.{FindsBest}
use Rattle.job_turns.proofs.Tried.{IsGoalBelow, IsBestBelow}
use Rattle.job_turns.proofs.modes.best_mode.Given as goal

abbrev pub invariant-modes : goal.invariant-modes
invariant-modes g l = record {
  at_work : StaysAtWork l.search l.initial.turn l.turn (g.H.Hints.capacity l.turn.hints.now);
  found : FindsBest l.search.query.now l.search.board.now.setup.capacity (hands l.initial.turn.seat.now)
      l.initial.turn.job.right
      (IsGoalBelow l.search.query.now l.expr l.wanted l.from) (IsBestBelow l.search.query.now l.expr l.wanted l.from)
      l.known_best
      (hands l.turn.seat.now)
      l.turn.job.right;
}

abbrev pub decreases-modes : goal.decreases-modes
decreases-modes g l = 192 - l.from
