use Rattle.std.proofs.Common.{◌≡◌}
use Rattle.board_tests.proofs.hint_tests.hint_below.Given as goal

-- the capacity stays
abbrev pub invariant-loop-place : goal.invariant-loop-place
invariant-loop-place l = l.hints ≡ l.initial.hints
