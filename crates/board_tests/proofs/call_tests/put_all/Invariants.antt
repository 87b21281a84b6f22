-- The seat is one of the board, with the parts that it had and no right.
use Rattle.std.proofs.Common.{◌≡◌, [], ◌≤◌}
use Rattle.goal_board.specs.Seats.{IsSeatOf, hands}
use Rattle.board_tests.specs.Numbers.{numbers}
use Rattle.board_tests.proofs.call_tests.put_all.Given as goal

abbrev pub invariant-loop-number : goal.invariant-loop-number
invariant-loop-number l = record {
  seat : IsSeatOf (λ r. numbers r.limit) l.board l.seat;
  parts : (hands l.seat).parts ≡ (hands l.initial.seat).parts;
  rights : (hands l.seat).rights ≡ [];
  count : l.fresh ≤ l.number;
}
