use Rattle.std.proofs.Common.{ℕ, ◌<◌, get_or}
use Rattle.query_core.specs.Expressions.{IsCandidateWord}
use Rattle.search_tests.proofs.memo_tests.are_candidates.Given as goal

-- the words before this one are those of candidates
abbrev pub invariant-loop-word : goal.invariant-loop-word
invariant-loop-word l = (k : ℕ) → k < l.word-index → IsCandidateWord l.query (get_or l.words k 0)
