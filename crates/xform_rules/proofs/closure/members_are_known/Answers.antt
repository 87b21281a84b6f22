use Rattle.query_core.specs.Expressions.{IsPacked}
use Rattle.query_core.specs.declared.query.Query.{Query}
use Rattle.query_core.specs.declared.expressions.ExprParts.{ExprParts}
use Rattle.xform_rules.specs.Closure.{IsMember}
use Rattle.xform_rules.proofs.OneClosure.{closure_one}
use Rattle.xform_rules.proofs.Members.{has_origin, candidate_words}
use Rattle.xform_rules.proofs.closure.members_are_known.Goals as goal

-- members are candidates
packed : (c : goal.After-expressions_are_one) → (q : Query) (e : ExprParts) → IsMember q e → IsPacked e
packed c q e member = c.candidates_are_known.ensures.packed q e (c.members_are_candidates.ensures q e member)

pub returns : goal.returns
returns c = record {
  origins = has_origin;
  packed = packed c;
  small = λ q e member. c.expressions_are_one.ensures.small e (packed c q e member);
  closure_is_one = closure_one;
  candidates = λ q words is. candidate_words q (c.members_are_candidates.ensures q) words is.sound;
}
