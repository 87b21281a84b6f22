-- What is known of members.
use Rattle.std.proofs.Common.{ℕ, List, sym, subst}
use Rattle.std.specs.List.{All}
use Rattle.query_core.specs.Expressions.{origin_of, IsCandidate, IsCandidateWord}
use Rattle.query_core.specs.declared.query.Query.{Query}
use Rattle.query_core.specs.declared.expressions.ExprParts.{ExprParts}
use Rattle.xform_rules.specs.Closure.{IsMember, root_origin, child_origin, result, bound_result, IsMemberWord}

-- the group of a member has its origin as a member
pub has_origin : (q : Query) (e : ExprParts) → IsMember q e → IsMember q (origin_of q e.group)
has_origin q e root_origin = root_origin
has_origin q e (child_origin before group member child) = child_origin before group member child
has_origin q e (result before other rule n member has) =
    subst (λ g. IsMember q (origin_of q g)) (sym has.group) (has_origin q before member)
has_origin q e (bound_result before bound other rule n member member_bound has) =
    subst (λ g. IsMember q (origin_of q g)) (sym has.group) (has_origin q before member)

-- where members are candidates, their words are those of candidates
pub candidate_words : (q : Query) → ((e : ExprParts) → IsMember q e → IsCandidate q e) → (words : List ℕ)
    → All (IsMemberWord q) words → All (IsCandidateWord q) words
candidate_words q candidates words all = λ k d within. let (e, member, word) = all k d within in
    (e, candidates e member, word)
