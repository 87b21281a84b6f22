-- The requests of the goals of a query fit their groups.
use Rattle.std.proofs.Common.{List, [], ◌∷◌, sym, subst, inl, inr}
use Rattle.query_core.specs.Expressions.{expr_of, physical_children, IsCandidate}
use Rattle.query_core.specs.declared.query.Query.{Query}
use Rattle.query_core.specs.declared.words.KeyParts.{KeyParts}
use Rattle.query_core.specs.declared.expressions.ExprParts.{ExprParts}
use Rattle.xform_rules.specs.Closure.{IsMember}
use Rattle.request_props.specs.declared.request.Request.{Request}
use Rattle.request_props.specs.Fitting.{Fits}
use Rattle.plan_space.specs.Choices.{groups_of}
use Rattle.plan_space.specs.Alternatives.{asked_of}
use Rattle.plan_space.specs.Laws.{RequestsFit, AsksWhatFits, EnforcersAskWhatFits, RootRequestFits}
use Rattle.goal_space.specs.Children.{IsAsked, IsChildGoal}
use Rattle.goal_space.specs.Goals.{IsGoal, root_goal, child_goal}
use Rattle.goal_space.specs.OfMembers.{IsOfMember, goals_of_members}
use Rattle.goal_space.specs.Laws.{HasFittingRequest}
use Rattle.goal_space.specs.declared.goals.GoalKind.{GoalKind}
use Rattle.goal_space.specs.declared.goals.GoalKind.TheVariants.{Exp, ExpE, Xf, Imp, ImpE, Opt, OptE}

-- ---- requests

-- of requests that fit their groups each does
one_fits : (q : Query) (groups : List KeyParts) (wishes : List Request) (group : KeyParts) (wanted : Request)
    → RequestsFit q groups wishes
    → IsAsked groups wishes group wanted → Fits q group wanted
one_fits q [] wishes group wanted fit asked = absurd asked
one_fits q (first ∷ groups) [] group wanted fit asked = absurd asked
one_fits q (first ∷ groups) (wish ∷ wishes) group wanted fit (inl same) =
    subst (λ (g : KeyParts). Fits q g wanted) (sym same.0) (subst (Fits q first) (sym same.1) fit.0)
one_fits q (first ∷ groups) (wish ∷ wishes) group wanted fit (inr among) =
    one_fits q groups wishes group wanted fit.1 among

-- ---- goals

module _ (q : Query) (root_fits : RootRequestFits q) (asks_what_fits : AsksWhatFits q)
    (enforcers_ask : EnforcersAskWhatFits q) (candidates : (e : ExprParts) → IsMember q e → IsCandidate q e) where
  child_fits : (goal child : GoalKind) → IsOfMember q goal → HasFittingRequest q goal
      → IsChildGoal (IsMember q) q goal child → HasFittingRequest q child
  child_fits (Exp group) child known fits (e, is_in, is) = subst (HasFittingRequest q) (sym is) tt
  child_fits (ExpE e) child known fits (inl (group, below, is)) = subst (HasFittingRequest q) (sym is) tt
  child_fits (ExpE e) child known fits (inr (rule, (tried, is))) = subst (HasFittingRequest q) (sym is) tt
  child_fits (Xf e rule) child known fits (group, associates, left, is) = subst (HasFittingRequest q) (sym is) tt
  child_fits (Imp group) child known fits (inl is) = subst (HasFittingRequest q) (sym is) tt
  child_fits (Imp group) child known fits (inr (e, is_in, is)) = subst (HasFittingRequest q) (sym is) tt
  child_fits (ImpE e) child known fits (inl (group, below, is)) = subst (HasFittingRequest q) (sym is) tt
  child_fits (ImpE e) child known fits (inr (rule, (tried, is))) = subst (HasFittingRequest q) (sym is) tt
  child_fits (Opt group wanted) child known fits (inl is) = subst (HasFittingRequest q) (sym is) tt
  child_fits (Opt group wanted) child known fits (inr (inl (e, can, is))) =
      subst (HasFittingRequest q) (sym is) (subst (λ (g : KeyParts). Fits q g wanted) (sym can.of_group) fits)
  child_fits (Opt group wanted) child known fits (inr (inr (e, can, is))) =
      subst (HasFittingRequest q) (sym is) (enforcers_ask group wanted e fits can.among)
  child_fits (OptE e wanted) child (mode, member, serves) fits (group, below, asks, is) =
      let all_fit = asks_what_fits e asks.mode asks.line wanted (candidates (expr_of e) member) fits
      asks.is_alternative in
      subst (HasFittingRequest q) (sym is) (one_fits q (groups_of (physical_children e.operator))
      (asked_of asks.line wanted) group below all_fit asks.is_asked)

  pub goal_fits : (goal : GoalKind) → IsGoal q goal → HasFittingRequest q goal
  goal_fits _ root_goal = root_fits
  goal_fits _ (child_goal goal child is_goal is_child) =
      child_fits goal child (goals_of_members q goal is_goal) (goal_fits goal is_goal) is_child
