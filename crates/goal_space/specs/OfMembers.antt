-- The goals of a query are about its members, and ask for members.
use Rattle.std.specs.Prelude.{ℕ, IsTrue, List, [], ◌∷◌}
use Rattle.std.proofs.Common.{sym, subst, inl, inr}
use Rattle.query_core.specs.Expressions.{children_of, expr_of, is_logical, origin_of, IsChild}
use Rattle.query_core.specs.declared.query.Query.{Query}
use Rattle.query_core.specs.declared.words.KeyParts.{KeyParts}
use Rattle.query_core.specs.declared.expressions.Children.{Children}
use Rattle.query_core.specs.declared.expressions.Children.TheVariants as arities
use Rattle.query_core.specs.declared.expressions.ExprParts.{ExprParts}
use Rattle.xform_rules.specs.Closure.{IsMember, root_origin, child_origin, result, bound_result}
use Rattle.xform_rules.specs.Results.{Applies}
use Rattle.xform_rules.specs.declared.rules.Rule.{Rule}
use Rattle.request_props.specs.declared.request.Request.{Request}
use Rattle.plan_space.specs.Choices.{groups_of}
use Rattle.plan_tree.specs.Alternatives.{HasAlternative}
use Rattle.goal_space.specs.Children.{IsLeft, IsAsked, IsChildGoal}
use Rattle.goal_space.specs.Goals.{IsGoal, root_goal, child_goal}
use Rattle.goal_space.specs.Asked.{IsResultOf, IsBroughtBy, AsksFor}
use Rattle.goal_space.specs.declared.goals.GoalKind.{GoalKind}
use Rattle.goal_space.specs.declared.goals.GoalKind.TheVariants.{Exp, ExpE, Xf, Imp, ImpE, Opt, OptE}

-- a member that says what is wanted
pub record IsLogicalMember (q : Query) (e : ExprParts) : Type 0 where
  pub member : IsMember q e
  pub logical : IsTrue (is_logical e.operator)

-- the goal is about a group whose origin is a member, or about a member; its rule applies, and some alternative is
-- there for its request
abbrev pub IsOfMember : Query → GoalKind → Type 0
IsOfMember q (Exp group) = IsMember q (origin_of q group)
IsOfMember q (ExpE e) = IsLogicalMember q e
IsOfMember q (Xf e rule) = IsMember q e × Applies q rule e
IsOfMember q (Imp group) = IsMember q (origin_of q group)
IsOfMember q (ImpE e) = IsLogicalMember q e
IsOfMember q (Opt group wanted) = IsMember q (origin_of q group)
IsOfMember q (OptE e wanted) = (mode : ℕ) × IsMember q (expr_of e) × HasAlternative q e wanted mode

-- ---- laws, as lemmas, for the rules of a board

-- the left group is a child
pub left_child : (children : Children) (group : KeyParts) → IsLeft children group → IsChild children group
left_child arities.Zero group left = left
left_child (arities.One child) group left = left
left_child (arities.Two first second) group left = inl left

-- a group of which something is asked is a child
pub asked_child : (children : Children) (wishes : List Request) (group : KeyParts) (wanted : Request)
    → IsAsked (groups_of children) wishes group wanted
    → IsChild children group
asked_child arities.Zero wishes group wanted asked = absurd asked
asked_child (arities.One child) [] group wanted asked = absurd asked
asked_child (arities.One child) (wish ∷ wishes) group wanted (inl same) = same.0
asked_child (arities.One child) (wish ∷ wishes) group wanted (inr none) = absurd none
asked_child (arities.Two left right) [] group wanted asked = absurd asked
asked_child (arities.Two left right) (wish ∷ wishes) group wanted (inl same) = inl same.0
asked_child (arities.Two left right) (wish ∷ []) group wanted (inr none) = absurd none
asked_child (arities.Two left right) (wish ∷ other ∷ wishes) group wanted (inr (inl same)) = inr same.0
asked_child (arities.Two left right) (wish ∷ other ∷ wishes) group wanted (inr (inr none)) = absurd none

-- the children of a goal about members are about members
child_of_members : (q : Query) (goal child : GoalKind) → IsOfMember q goal → IsChildGoal (IsMember q) q goal child
    → IsOfMember q child
child_of_members q (Exp group) child known (e, is_in, is) =
    subst (IsOfMember q) (sym is) (record { member = is_in.member; logical = is_in.logical })
child_of_members q (ExpE e) child known (inl (group, below, is)) =
    subst (IsOfMember q) (sym is) (child_origin e group known.member below)
child_of_members q (ExpE e) child known (inr (rule, (tried, is))) =
    subst (IsOfMember q) (sym is) (known.member, tried.1)
child_of_members q (Xf e rule) child known (group, associates, left, is) =
    subst (IsOfMember q) (sym is) (child_origin e group known.0 (left_child (children_of e.operator) group left))
child_of_members q (Imp group) child known (inl is) = subst (IsOfMember q) (sym is) known
child_of_members q (Imp group) child known (inr (e, is_in, is)) =
    subst (IsOfMember q) (sym is) (record { member = is_in.member; logical = is_in.logical })
child_of_members q (ImpE e) child known (inl (group, below, is)) =
    subst (IsOfMember q) (sym is) (child_origin e group known.member below)
child_of_members q (ImpE e) child known (inr (rule, (tried, is))) =
    subst (IsOfMember q) (sym is) (known.member, tried.1)
child_of_members q (Opt group wanted) child known (inl is) = subst (IsOfMember q) (sym is) known
child_of_members q (Opt group wanted) child known (inr (inl (e, can, is))) =
    subst (IsOfMember q) (sym is) (can.mode, can.member, can.serves)
child_of_members q (Opt group wanted) child known (inr (inr (e, can, is))) = subst (IsOfMember q) (sym is) known
child_of_members q (OptE e wanted) child (mode, member, serves) (group, below, asks, is) =
    subst (IsOfMember q) (sym is) (child_origin (expr_of e) group member
    (asked_child (children_of (expr_of e).operator) _ group below asks.is_asked))

-- the goals of a query are about its members
pub goals_of_members : (q : Query) (goal : GoalKind) → IsGoal q goal → IsOfMember q goal
goals_of_members q _ root_goal = root_origin
goals_of_members q _ (child_goal goal child is_goal is_child) =
    child_of_members q goal child (goals_of_members q goal is_goal) is_child

-- the results of a rule at a member are members
result_member : (q : Query) (rule : Rule) (e other : ExprParts) → IsMember q e → IsResultOf q rule e other
    → IsMember q other
result_member q rule e other member (inl (n, has)) = result e other rule n member has
result_member q rule e other member (inr (bound, n, member_bound, has)) =
    bound_result e bound other rule n member member_bound has

-- and so is what a member brings along
brought_member : (q : Query) (e other : ExprParts) → IsMember q e → IsBroughtBy q e other → IsMember q other
brought_member q e other member (inl same) = subst (IsMember q) (sym same) member
brought_member q e other member (inr (group, child, same)) =
    subst (IsMember q) (sym same) (child_origin e group member child)

-- what a goal asks for is a member
asked_of_members : (q : Query) (goal : GoalKind) (e : ExprParts) → IsOfMember q goal → AsksFor q goal e → IsMember q e
asked_of_members q (Exp group) e known asks = asks.member
asked_of_members q (ExpE x) e known asks = absurd asks
asked_of_members q (Xf x rule) e known (other, is_result, brought) =
    brought_member q other e (result_member q rule x other known.0 is_result) brought
asked_of_members q (Imp group) e known asks = asks.0
asked_of_members q (ImpE x) e known asks = absurd asks
asked_of_members q (Opt group wanted) e known asks = absurd asks
asked_of_members q (OptE x wanted) e known asks = absurd asks

pub asked_are_members : (q : Query) (goal : GoalKind) (e : ExprParts) → IsGoal q goal → AsksFor q goal e → IsMember q e
asked_are_members q goal e is_goal asks = asked_of_members q goal e (goals_of_members q goal is_goal) asks
