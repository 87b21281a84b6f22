-- The rules before this one were awaited.
use Rattle.goal_board.specs.Seats.{hands}
use Rattle.job_turns.specs.Searches.{StaysAtWork}
use Rattle.job_turns.specs.Works.{HasAwaited}
use Rattle.job_turns.proofs.Awaited.{IsRuleBefore}
use Rattle.job_turns.proofs.expressions.await_rules.Given as goal

abbrev pub invariant-loop-rule : goal.invariant-loop-rule
invariant-loop-rule g l = record {
  at_work : StaysAtWork l.search l.initial.turn l.turn (g.H.Hints.capacity l.turn.hints.now);
  awaited : HasAwaited l.search.query.now l.search.board.now.setup.capacity (hands l.initial.turn.seat.now)
      l.initial.turn.job.right
      (IsRuleBefore l.search.query.now l.phase l.e l.rules l.rule-index) (hands l.turn.seat.now) l.turn.job.right;
}
