use Rattle.std.proofs.Common.{get_or, below_more, subst, arith}
use Rattle.std.proofs.lemmas.List.{get_or_default}
use Rattle.query_core.specs.Expressions.{IsCandidateWord}
use Rattle.search_tests.proofs.memo_tests.are_candidates.Goals as goal

-- this word is that of a candidate too
pub loop-word-preserved : goal.loop-word-preserved
loop-word-preserved c =
    below_more (λ k. IsCandidateWord c.args.query.now (get_or c.args.words.now k 0)) c.loop-word.word-index
    c.loop-word.invariant (c.is_candidate.ensures.0 c.if-not-is_candidate.false)

-- so all words are
pub returns : goal.returns
returns c = λ yes k d within.
    subst (IsCandidateWord c.args.query.now) (get_or_default c.args.words.now k 0 d within)
    (c.loop-word.invariant k (omega (arith, c.loop-word-test.false, within)))
