use Rattle.std.proofs.Common.{subst, sym, ◌∙◌}
use Rattle.std.proofs.lemmas.Bool.{false≢true}
use Rattle.query_core.specs.Expressions.{IsCandidate}
use Rattle.query_core.proofs.CandidateLemmas.{candidate_packed}
use Rattle.query_core.proofs.ExpressionLemmas.{word_one}
use Rattle.query_core.proofs.query.Query.is_candidate.Goals as goal

-- the number is the word of one expression
pub returns-in-Some : goal.returns-in-Some
returns-in-Some c =
    let q = c.args.self.now in
    let (packed, number) = c.in-Some.ensures in (
      λ held. (c.in-Some.parts, c.can_hold.ensures.0 held, number),
      λ (e, candidate, word). c.can_hold.ensures.1
          (subst (IsCandidate q) (word_one e c.in-Some.parts (candidate_packed q e candidate) packed (word
          ∙ sym number)) candidate),
    )

-- the number is no word
pub returns-in-None : goal.returns-in-None
returns-in-None c = (
  λ never. absurd (false≢true never),
  λ (e, candidate, word). absurd (c.in-None.ensures e (candidate_packed c.args.self.now e candidate) word),
)
