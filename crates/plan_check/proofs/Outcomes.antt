-- The outcome of a plan, by what a walk found out of it.
use Rattle.std.proofs.Common.{◌≡◌, ℕ, ◌-◌, ◌^◌, ◌≤◌, min, length, None, Some, sym, ap, subst, arith}
use Rattle.query_core.specs.Expressions.{IsCandidate}
use Rattle.query_core.specs.declared.query.Query.{Query}
use Rattle.request_props.specs.Satisfied.{Satisfies}
use Rattle.request_props.specs.declared.given.Given.{Given}
use Rattle.request_props.specs.declared.request.Request.{Request}
use Rattle.plan_space.specs.Gives.{gives}
use Rattle.plan_space.specs.Nodes.{Tree}
use Rattle.plan_space.specs.Valid.{IsValid}
use Rattle.plan_space.specs.declared.seen.Kid.{Kid}
use Rattle.plan_tree.specs.declared.plan.Plan.{Plan}
use Rattle.plan_check.specs.Kids.{RootHasKids, RootFits}
use Rattle.plan_check.specs.Nodes.{IsNodeOf}
use Rattle.plan_check.specs.Outcome.{most_nodes, IsSmall, IsTreeOf, HasKidsFault, HasNeedsFault, IsUnsatisfied, IsGood}
use Rattle.plan_check.specs.Passes.{IsFirst, IsLast, IsTreeWalk, IsWalk}
use Rattle.plan_check.specs.Preorder.{nodes_of, plans_in}
use Rattle.plan_check.specs.declared.walk.Walked.{Walked}
use Rattle.plan_check.proofs.OneTree.{known_all}
use Rattle.plan_check.proofs.Trees.{tree_known}
use Rattle.plan_check.proofs.Validity.{fits_valid}

-- so many nodes were counted, and that is few enough
pub is_small : (plan : Plan) (nodes : ℕ) → nodes ≡ min (length (nodes_of plan)) (2 ^ 64 - 1) → nodes ≤ most_nodes
    → IsSmall plan
is_small plan nodes counted few = omega arith

module _ (q : Query) (plan : Plan) (walked : Walked) (small : IsSmall plan) (walk : IsWalk q plan walked)
    (known : walked.findings.unknown ≡ None) where
  -- all nodes are of the query, so the plan is a tree
  tree_walked : (tree : Tree) × IsTreeOf q plan tree × IsTreeWalk q tree walked
  tree_walked =
      let all = subst (λ place. IsFirst (IsNodeOf q) (nodes_of plan) place) known walk.nodes.first in
      let tree = tree_known q plan (known_all q plan all) in (
        tree.0,
        record { small = small; known = all; spells = tree.1 },
        walk.tree (known_all q plan all) tree.0 tree.1,
      )

  -- the last node with wrong kids was found
  pub kids_fault : (node : ℕ) → walked.findings.wrong ≡ Some node → HasKidsFault q plan node
  kids_fault node is = let found = tree_walked in
      record {
        tree = found.0;
        is_tree = found.1;
        last = subst (λ place. IsLast (RootHasKids q) (plans_in found.0) place) is found.2.plans.last;
      }

  module _ (right : walked.findings.wrong ≡ None) where
    -- all kids are right, and the first node that may not stand over its own was found
    pub needs_fault : (node : ℕ) → walked.findings.unfit ≡ Some node → HasNeedsFault q plan node
    needs_fault node is = let found = tree_walked in
        record {
          tree = found.0;
          is_tree = found.1;
          kids = subst (λ place. IsLast (RootHasKids q) (plans_in found.0) place) right found.2.plans.last;
          first = subst (λ place. IsFirst (RootFits q) (plans_in found.0) place) is found.2.plans.first;
        }

  module _ (fits : walked.findings.unfit ≡ None) (request : Request) where
    -- each node may stand over its kids, so the tree is valid
    fit_valid : (tree : Tree) → IsTreeWalk q tree walked → IsValid (IsCandidate q) q tree
    fit_valid tree found = fits_valid q tree
        (subst (λ place. IsFirst (RootFits q) (plans_in tree) place) fits found.plans.first)

    given_seen : (tree : Tree) → IsTreeWalk q tree walked → walked.kid.given ≡ gives q tree
    given_seen tree found = ap (λ (kid : Kid). kid.given) found.kid

    pub good : Satisfies q walked.kid.given request → IsGood q plan request walked.findings.cost
    good met = let found = tree_walked in
        record {
          tree = found.0;
          is_tree = found.1;
          valid = fit_valid found.0 found.2;
          satisfies = subst (λ (given : Given). Satisfies q given request) (given_seen found.0 found.2) met;
          costs = found.2.cost;
        }

    pub unsatisfied : (Satisfies q walked.kid.given request → ⊥) → IsUnsatisfied q plan request
    unsatisfied unmet = let found = tree_walked in
        record {
          tree = found.0;
          is_tree = found.1;
          valid = fit_valid found.0 found.2;
          unmet = λ met. unmet
              (subst (λ (given : Given). Satisfies q given request) (sym (given_seen found.0 found.2)) met);
        }
