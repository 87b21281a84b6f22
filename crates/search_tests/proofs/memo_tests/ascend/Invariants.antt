use Rattle.std.proofs.Common.{ℕ, ◌+◌, ◌<◌, get_or}
use Rattle.search_tests.proofs.memo_tests.ascend.Given as goal

-- the words up to this one ascend
abbrev pub invariant-loop-place : goal.invariant-loop-place
invariant-loop-place l = (k : ℕ) → k + 1 < l.place → get_or l.words k 0 < get_or l.words (k + 1) 0
