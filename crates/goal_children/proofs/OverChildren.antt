-- The children of a goal over a query are goals over it.
use Rattle.std.proofs.Common.{◌≡◌, ℕ, ◌≤◌, Option, None, Some, List, length, sym, subst, inl, inr, arith}
use Rattle.query_core.specs.Keys as keys
use Rattle.query_core.specs.Keys.{IsGroup}
use Rattle.query_core.specs.Expressions.{children_of, expr_of, physical_children, IsCandidate, IsChild, IsPacked}
use Rattle.query_core.specs.declared.query.Query.{Query}
use Rattle.query_core.specs.declared.words.KeyParts.{KeyParts}
use Rattle.query_core.specs.declared.expressions.ExprParts.{ExprParts}
use Rattle.request_props.specs.Dists.{list_asked}
use Rattle.request_props.specs.Requests as requests
use Rattle.request_props.specs.Numbered.{lists_of, orders_of}
use Rattle.request_props.specs.declared.request.Request.{Request}
use Rattle.plan_space.specs.Laws.{AsksWhatFits}
use Rattle.goal_space.specs.Words.{IsGoalInRange}
use Rattle.goal_space.specs.OfMembers.{left_child, asked_child}
use Rattle.goal_space.specs.Laws.{IsOfCandidate}
use Rattle.goal_space.specs.declared.goals.GoalKind.{GoalKind}
use Rattle.goal_space.specs.declared.goals.GoalKind.TheVariants.{Exp, ExpE, Xf, Imp, ImpE, Opt, OptE}
use Rattle.goal_children.specs.Over.{IsListNumbered, IsNumberedRequest, IsGoalOver}
use Rattle.goal_children.specs.Children.{IsChildIn}
use Rattle.goal_children.proofs.Asking.{asks_numbered, enforcer_numbered}

module _ (q : Query) (group_below : (e : ExprParts) (g : KeyParts) → IsCandidate q e
    → IsChild (children_of e.operator) g → IsGroup q g) (asks_what_fits : AsksWhatFits q) where
  -- a goal without a request
  of_group : (goal : GoalKind) (child : GoalKind) → child ≡ goal → IsGoalOver q goal → IsGoalOver q child
  of_group goal child is over = subst (IsGoalOver q) (sym is) over

  pub child_over : (words : List ℕ) (goal child : GoalKind) → IsGoalOver q goal → IsChildIn q words goal child
      → IsGoalOver q child
  child_over words (Exp group) child over (e, is_in, is) =
      of_group (ExpE e) child is (record { of_candidate = is_in.member.candidate; numbered = tt })
  child_over words (ExpE e) child over (inl (group, below, is)) =
      of_group (Exp group) child is (record {
        of_candidate = group_below e group over.of_candidate below;
        numbered = tt;
      })
  child_over words (ExpE e) child over (inr (rule, (tried, is))) =
      of_group (Xf e rule) child is (record { of_candidate = over.of_candidate; numbered = tt })
  child_over words (Xf e rule) child over (group, associates, left, is) =
      of_group (Exp group) child is (record {
        of_candidate = group_below e group over.of_candidate (left_child (children_of e.operator) group left);
        numbered = tt;
      })
  child_over words (Imp group) child over (inl is) =
      of_group (Exp group) child is (record { of_candidate = over.of_candidate; numbered = tt })
  child_over words (Imp group) child over (inr (e, is_in, is)) =
      of_group (ImpE e) child is (record { of_candidate = is_in.member.candidate; numbered = tt })
  child_over words (ImpE e) child over (inl (group, below, is)) =
      of_group (Imp group) child is (record {
        of_candidate = group_below e group over.of_candidate below;
        numbered = tt;
      })
  child_over words (ImpE e) child over (inr (rule, (tried, is))) =
      of_group (Xf e rule) child is (record { of_candidate = over.of_candidate; numbered = tt })
  child_over words (Opt group wanted) child over (inl is) =
      of_group (Imp group) child is (record { of_candidate = over.of_candidate; numbered = tt })
  child_over words (Opt group wanted) child over (inr (inl (e, can, is))) =
      of_group (OptE e wanted) child is (record { of_candidate = can.member.candidate; numbered = over.numbered })
  child_over words (Opt group wanted) child over (inr (inr (e, can, is))) =
      of_group (Opt group e.below) child is (record {
        of_candidate = over.of_candidate;
        numbered = enforcer_numbered q wanted e over.numbered can.among;
      })
  child_over words (OptE e wanted) child over (group, below, asks, is) =
      of_group (Opt group below) child is (record {
        of_candidate = group_below (expr_of e) group over.of_candidate
            (asked_child (physical_children e.operator) _ group below asks.is_asked);
        numbered = asks_numbered q asks_what_fits e wanted group below over.of_candidate over.numbered asks;
      })

-- ---- words

module _ (q : Query) (few_lists : length (lists_of q) ≤ 60) (few_orders : length (orders_of q) ≤ 60) where
  list_in_range : (list : Option ℕ) → IsListNumbered q list → requests.IsListInRange list
  list_in_range None numbered = tt
  list_in_range (Some list) numbered = omega (arith, few_lists, numbered)

  -- a request that has numbers has a code
  pub request_in_range : (wanted : Request) → IsNumberedRequest q wanted → requests.IsRequestInRange wanted
  request_in_range wanted numbered = record {
    list = list_in_range (list_asked wanted.dist) numbered.dist;
    numbered = omega (arith, few_orders, numbered.order);
  }

  module _ (known_group : (g : KeyParts) → IsGroup q g → keys.IsGroupInRange g)
      (packed : (e : ExprParts) → IsCandidate q e
      → IsPacked e) where
    by_kind : (goal : GoalKind) → IsOfCandidate q goal → IsGoalOver q goal → IsGoalInRange goal
    by_kind (Exp group) known over = known_group group known
    by_kind (ExpE e) known over = packed e known
    by_kind (Xf e rule) known over = packed e known
    by_kind (Imp group) known over = known_group group known
    by_kind (ImpE e) known over = packed e known
    by_kind (Opt group wanted) known over = (known_group group known, request_in_range wanted over.numbered)
    by_kind (OptE e wanted) known over = (packed (expr_of e) known, request_in_range wanted over.numbered)

    -- so a goal over the query has a word
    pub goal_in_range : (goal : GoalKind) → IsGoalOver q goal → IsGoalInRange goal
    goal_in_range goal over = by_kind goal over.of_candidate over
