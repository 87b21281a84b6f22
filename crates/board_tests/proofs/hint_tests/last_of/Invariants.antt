use Rattle.std.proofs.Common.{◌≡◌}
use Rattle.board_tests.proofs.hint_tests.last_of.Given as goal

-- the last one knows the capacity
abbrev pub invariant-loop-place : goal.invariant-loop-place
invariant-loop-place l = l.last ≡ 100
