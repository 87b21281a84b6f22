use Rattle.job_turns.specs.Searches.{IsSeat}
use Rattle.engine_tests.proofs.settled_tests.settled_among.Given as goal

abbrev pub invariant-loop-word : goal.invariant-loop-word
invariant-loop-word l = IsSeat l.search.board.now l.seat
