-- Each child of a goal has a smaller rank.
use Rattle.std.proofs.Common.{◌≡◌, ℕ, zero, suc, ◌<◌, ◌≤◌, Some, length, refl, ap, sym, subst, inl, inr, arith}
use Rattle.query_core.specs.Expressions.{children_of, expr_of}
use Rattle.query_core.specs.declared.query.Query.{Query}
use Rattle.query_core.specs.declared.expressions.ExprParts.{ExprParts}
use Rattle.request_props.specs.declared.request.Dist.{Dist}
use Rattle.request_props.specs.declared.request.Request.{Request}
use Rattle.plan_space.specs.declared.nodes.Motion.{Motion}
use Rattle.plan_space.specs.declared.nodes.Motion.TheVariants.{Gather}
use Rattle.plan_space.specs.Enforcers.{EnforcedBy, motion_to, motions_in, enforcers_of, Among}
use Rattle.plan_space.proofs.Enforcers.{one_motion}
use Rattle.plan_space.proofs.MotionLaws.{enforcer_for}
use Rattle.goal_space.specs.Children.{IsChildGoal}
use Rattle.goal_space.specs.Ranks.{level_of, dist_rank, order_rank, request_rank, rank_of}
use Rattle.goal_space.specs.Laws.{IsOfCandidate}
use Rattle.goal_space.specs.OfMembers.{left_child, asked_child}
use Rattle.goal_space.specs.declared.goals.GoalKind.{GoalKind}
use Rattle.goal_space.specs.declared.goals.GoalKind.TheVariants.{Exp, ExpE, Xf, Imp, ImpE, Opt, OptE}
use Rattle.goal_space.proofs.Levels.{ChildrenAreOfGroup, FewerTables, child_below}

-- ---- requests

few_order : (order : ℕ) → order_rank order ≤ 1
few_order zero = omega arith
few_order (suc place) = omega arith

few_request : (wanted : Request) → request_rank wanted ≤ 2
few_request wanted = omega (arith, one_motion (motion_to wanted.dist), few_order wanted.order)

-- where there is a motion to the distribution, it counts
one_moves : (dist : Dist) (motion : Motion) → motion_to dist ≡ Some motion → dist_rank dist ≡ 1
one_moves dist motion moves = ap (λ found. length (motions_in found)) moves

one_sorts : (order : ℕ) → 1 ≤ order → order_rank order ≡ 1
one_sorts zero some = absurd (omega (arith, some))
one_sorts (suc place) some = refl

-- what an enforcer asks for has a smaller rank than what it gives
abbrev AsksLess : Request → EnforcedBy → Type 0
AsksLess wanted e = request_rank e.below < request_rank wanted

enforcer_less : (wanted : Request) (e : EnforcedBy) → Among e (enforcers_of wanted) → AsksLess wanted e
enforcer_less wanted e among = elim (enforcer_for wanted e among) [
  | inl (motion, is) ↦ subst (AsksLess wanted) (sym is.same) (omega (arith, one_moves wanted.dist motion is.moves))
  | inr (inl is) ↦ subst (AsksLess wanted) (sym is.same) (omega (arith, one_sorts wanted.order is.some_order))
  | inr (inr is) ↦ subst (AsksLess wanted) (sym is.same) (omega (arith, one_moves wanted.dist Gather is.moves))
]

-- ---- goals

-- the rank of the child is that of the goal that it is
as_goal : (goal child other : GoalKind) → child ≡ other → rank_of other < rank_of goal → rank_of child < rank_of goal
as_goal goal child other same less = subst (λ (g : GoalKind). rank_of g < rank_of goal) (sym same) less

module _ (fewer : FewerTables) (by_group : ChildrenAreOfGroup) (Member : ExprParts → Type 0) (q : Query) where
  pub rank_falls : (goal child : GoalKind) → IsOfCandidate q goal → IsChildGoal Member q goal child
      → rank_of child < rank_of goal
  rank_falls (Exp group) child known (e, is_in, is) =
      as_goal (Exp group) child (ExpE e) is (omega (arith, ap level_of is_in.of_group))
  rank_falls (ExpE e) child known (inl (group, below, is)) =
      as_goal (ExpE e) child (Exp group) is (omega (arith, child_below fewer by_group q e group known below))
  rank_falls (ExpE e) child known (inr (rule, (tried, is))) =
      as_goal (ExpE e) child (Xf e rule) is (omega arith)
  rank_falls (Xf e rule) child known (group, associates, left, is) =
      as_goal (Xf e rule) child (Exp group) is
      (omega (arith, child_below fewer by_group q e group known (left_child (children_of e.operator) group left)))
  rank_falls (Imp group) child known (inl is) = as_goal (Imp group) child (Exp group) is (omega arith)
  rank_falls (Imp group) child known (inr (e, is_in, is)) =
      as_goal (Imp group) child (ImpE e) is (omega (arith, ap level_of is_in.of_group))
  rank_falls (ImpE e) child known (inl (group, below, is)) =
      as_goal (ImpE e) child (Imp group) is (omega (arith, child_below fewer by_group q e group known below))
  rank_falls (ImpE e) child known (inr (rule, (tried, is))) =
      as_goal (ImpE e) child (Xf e rule) is (omega arith)
  rank_falls (Opt group wanted) child known (inl is) = as_goal (Opt group wanted) child (Imp group) is (omega arith)
  rank_falls (Opt group wanted) child known (inr (inl (e, can, is))) =
      as_goal (Opt group wanted) child (OptE e wanted) is (omega (arith, ap level_of can.of_group))
  rank_falls (Opt group wanted) child known (inr (inr (e, can, is))) =
      as_goal (Opt group wanted) child (Opt group e.below) is (omega (arith, enforcer_less wanted e can.among))
  rank_falls (OptE e wanted) child known (group, below, asks, is) =
      let lower = child_below fewer by_group q (expr_of e) group known
      (asked_child (children_of (expr_of e).operator) _ group below asks.is_asked) in
      as_goal (OptE e wanted) child (Opt group below) is (omega (arith, lower, few_request below))
