-- The members among the candidates before this one were tried.
use Rattle.std.proofs.Common.{take}
use Rattle.goal_board.specs.Seats.{hands}
use Rattle.job_turns.specs.Searches.{StaysAtWork}
use Rattle.job_turns.specs.Choices.{FindsBest}
use Rattle.job_turns.proofs.Serving.{IsMemberGoalAmong, IsBestAmong}
use Rattle.job_turns.proofs.members.best_member.Given as goal

abbrev pub invariant-loop-place : goal.invariant-loop-place
invariant-loop-place g l = record {
  at_work : StaysAtWork l.search l.initial.turn l.turn (g.H.Hints.capacity l.turn.hints.now);
  found : FindsBest l.search.query.now l.search.board.now.setup.capacity (hands l.initial.turn.seat.now)
      l.initial.turn.job.right
      (IsMemberGoalAmong l.search.query.now l.fn.group l.wanted (take l.place l.candidates))
      (IsBestAmong l.search.query.now l.fn.group l.wanted (take l.place l.candidates)) l.known_best
      (hands l.turn.seat.now)
      l.turn.job.right;
}
