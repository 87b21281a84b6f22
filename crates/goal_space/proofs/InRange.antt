-- The goals of a query are about groups and candidates, and have words.
use Rattle.std.proofs.Common.{ℕ, ◌≤◌, Option, None, Some, length, arith}
use Rattle.query_core.specs.Keys as keys
use Rattle.query_core.specs.Keys.{IsGroup}
use Rattle.query_core.specs.Expressions.{expr_of, IsCandidate, IsPacked}
use Rattle.query_core.specs.declared.query.Query.{Query}
use Rattle.query_core.specs.declared.words.KeyParts.{KeyParts}
use Rattle.query_core.specs.declared.expressions.ExprParts.{ExprParts}
use Rattle.xform_rules.specs.Closure.{IsMember}
use Rattle.request_props.specs.Dists.{list_asked}
use Rattle.request_props.specs.Requests as requests
use Rattle.request_props.specs.Numbered.{lists_of, orders_of}
use Rattle.request_props.specs.Fitting.{ListFits, Fits}
use Rattle.request_props.specs.declared.request.Request.{Request}
use Rattle.goal_space.specs.Words.{IsGoalInRange}
use Rattle.goal_space.specs.OfMembers.{IsOfMember}
use Rattle.goal_space.specs.Laws.{IsOfCandidate, HasFittingRequest}
use Rattle.goal_space.specs.declared.goals.GoalKind.{GoalKind}
use Rattle.goal_space.specs.declared.goals.GoalKind.TheVariants.{Exp, ExpE, Xf, Imp, ImpE, Opt, OptE}

-- members are candidates
pub of_candidate : (q : Query) → ((e : ExprParts) → IsMember q e → IsCandidate q e) → (goal : GoalKind)
    → IsOfMember q goal → IsOfCandidate q goal
of_candidate q candidates (Exp group) known = (candidates _ known).known
of_candidate q candidates (ExpE e) known = candidates e known.member
of_candidate q candidates (Xf e rule) known = candidates e known.0
of_candidate q candidates (Imp group) known = (candidates _ known).known
of_candidate q candidates (ImpE e) known = candidates e known.member
of_candidate q candidates (Opt group wanted) known = (candidates _ known).known
of_candidate q candidates (OptE e wanted) known = candidates (expr_of e) known.1

-- a list of the query has one of 60 numbers
list_in_range : (q : Query) (group : KeyParts) (list : Option ℕ) → length (lists_of q) ≤ 60
    → ListFits q group list → requests.IsListInRange list
list_in_range q group None few fits = tt
list_in_range q group (Some list) few fits = omega (arith, few, fits.numbered)

pub request_in_range : (q : Query) (group : KeyParts) (wanted : Request) → length (lists_of q) ≤ 60
    → length (orders_of q) ≤ 60 → Fits q group wanted
    → requests.IsRequestInRange wanted
request_in_range q group wanted few_lists few_orders fits = record {
  list = list_in_range q group (list_asked wanted.dist) few_lists fits.dist;
  numbered = omega (arith, few_orders, fits.numbered);
}

module _ (q : Query) (few_lists : length (lists_of q) ≤ 60) (few_orders : length (orders_of q) ≤ 60) (
    known_group : (g : KeyParts) → IsGroup q g → keys.IsGroupInRange g
    ) (
    packed : (e : ExprParts) → IsCandidate q e → IsPacked e
    ) where
  pub goal_in_range : (goal : GoalKind) → IsOfCandidate q goal → HasFittingRequest q goal → IsGoalInRange goal
  goal_in_range (Exp group) known fits = known_group group known
  goal_in_range (ExpE e) known fits = packed e known
  goal_in_range (Xf e rule) known fits = packed e known
  goal_in_range (Imp group) known fits = known_group group known
  goal_in_range (ImpE e) known fits = packed e known
  goal_in_range (Opt group wanted) known fits =
      (known_group group known, request_in_range q group wanted few_lists few_orders fits)
  goal_in_range (OptE e wanted) known fits =
      (packed (expr_of e) known, request_in_range q e.group wanted few_lists few_orders fits)
