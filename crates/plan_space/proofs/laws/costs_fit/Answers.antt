use Rattle.query_core.specs.declared.expressions.ExprParts.{ExprParts}
use Rattle.query_core.specs.declared.query.Query.{Query}
use Rattle.query_core.specs.Expressions.{IsPacked}
use Rattle.request_props.specs.Numbered.{orders_of}
use Rattle.request_props.specs.Found.{found_orders}
use Rattle.std.proofs.Common.{refl}
use Rattle.xform_rules.specs.Closure.{IsMember}
use Rattle.plan_space.proofs.Numbering.{is_ordered}
use Rattle.plan_space.proofs.Compared.{least_at_most}
use Rattle.plan_space.proofs.LeastCosts.{AreKnown, least_small, choice_small}
use Rattle.plan_space.proofs.laws.costs_fit.Goals as goal

-- each plan below the root of a cheapest plan is a cheapest one for what is asked of it, and has fewer nodes at most
pub returns : goal.returns
returns c =
    let packed : (q : Query) → (e : ExprParts) → IsMember q e → IsPacked e =
    λ q e member. c.candidates_are_known.ensures.packed q e (c.members_are_candidates.ensures q e member) in
    let known : (q : Query) → AreKnown (IsMember q) q = λ q. record {
      at_most_each = least_at_most (IsMember q) (packed q) c.expressions_are_one.ensures.expressions q;
      ordered = is_ordered q ((c.listing_is_one.ensures (found_orders q) (orders_of q)).1 refl).rises;
      candidates = c.members_are_candidates.ensures q;
      packed = packed q;
      given_fits = c.what_is_given_fits.ensures q;
      splits = c.satisfaction_splits.ensures.splits q;
      joins = c.satisfaction_splits.ensures.joins q;
      asks = c.what_is_asked_fits.ensures.children q;
    } in
    record {
      least = λ q. least_small (IsMember q) q (known q);
      choice = λ q. choice_small (IsMember q) q (known q);
    }
