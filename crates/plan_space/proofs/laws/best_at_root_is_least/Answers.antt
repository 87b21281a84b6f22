use Rattle.query_core.specs.declared.expressions.ExprParts.{ExprParts}
use Rattle.query_core.specs.declared.query.Query.{Query}
use Rattle.query_core.specs.Expressions.{IsPacked}
use Rattle.request_props.specs.Numbered.{orders_of}
use Rattle.request_props.specs.Found.{found_orders}
use Rattle.std.proofs.Common.{refl}
use Rattle.xform_rules.specs.Closure.{IsMember}
use Rattle.plan_space.proofs.Numbering.{is_ordered}
use Rattle.plan_space.proofs.Compared.{least_at_most}
use Rattle.plan_space.proofs.Choice as choice
use Rattle.plan_space.proofs.laws.best_at_root_is_least.Goals as goal

-- what is below the root has a least plan that does as well
pub returns : goal.returns
returns c =
    let packed : (q : Query) → (e : ExprParts) → IsMember q e → IsPacked e =
    λ q e member. c.candidates_are_known.ensures.packed q e (c.members_are_candidates.ensures q e member) in
    λ q.
    choice.root_best_is_least (IsMember q) q (least_at_most (IsMember q) (packed q)
    c.expressions_are_one.ensures.expressions q)
    (is_ordered q ((c.listing_is_one.ensures (found_orders q) (orders_of q)).1 refl).rises)
    (c.members_are_candidates.ensures q)
    (c.what_is_given_fits.ensures q) (c.satisfaction_splits.ensures.splits q)
