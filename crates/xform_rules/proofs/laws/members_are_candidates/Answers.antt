use Rattle.query_core.specs.Keys.{root_of}
use Rattle.query_core.specs.Expressions.{IsCandidate}
use Rattle.query_core.specs.declared.query.Query.{Query}
use Rattle.query_core.specs.declared.expressions.ExprParts.{ExprParts}
use Rattle.std.specs.Prelude.{None, Some}
use Rattle.xform_rules.specs.Closure.{IsMember, root_origin, child_origin, result, bound_result}
use Rattle.xform_rules.proofs.Candidates.{AreSides, result_candidate}
use Rattle.xform_rules.proofs.laws.members_are_candidates.Goals as goal

-- the laws of the sides of joins
sides_of : (c : goal.After-sides_are_known) → AreSides
sides_of c = record {
  turned = c.sides_are_known.ensures.turned;
  outer = c.sides_are_known.ensures.outer;
  cut = c.sides_are_known.ensures.cut;
  tables = c.sides_are_known.ensures.tables;
}

-- origins are candidates, and so are results
members : (c : goal.After-sides_are_known) → (q : Query) → (e : ExprParts) → IsMember q e → IsCandidate q e
members c q e root_origin = c.candidates_are_known.ensures.origins q (root_of q) (c.groups_are_known.ensures.root q)
members c q e (child_origin before group member child) =
    c.candidates_are_known.ensures.origins q group
    (c.candidates_are_known.ensures.children q before group (members c q before member) child)
members c q e (result before other rule n member has) =
    result_candidate (sides_of c) q rule before None n e (members c q before member) tt has
members c q e (bound_result before bound other rule n member member_bound has) =
    result_candidate (sides_of c) q rule before (Some bound) n e (members c q before member)
    (members c q bound member_bound) has

pub returns : goal.returns
returns c = members c
