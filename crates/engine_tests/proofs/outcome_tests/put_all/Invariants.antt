-- The seat is one of the board, with the parts and rights that it had.
use Rattle.std.proofs.Common.{◌≡◌, ◌≤◌}
use Rattle.goal_board.specs.Seats.{IsSeatOf, hands}
use Rattle.engine_tests.proofs.outcome_tests.put_all.Given as goal

abbrev pub invariant-loop-place : goal.invariant-loop-place
invariant-loop-place g l = record {
  seat : IsSeatOf g.R.GoalRules.meaning l.board l.seat;
  parts : (hands l.seat).parts ≡ (hands l.initial.seat).parts;
  rights : (hands l.seat).rights ≡ (hands l.initial.seat).rights;
  count : l.fresh ≤ l.place;
}
