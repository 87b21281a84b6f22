-- The goal of an expression in a phase: what it waits for, and that it asks for no member and chooses no plan.
use Rattle.std.proofs.Common.{◌↔◌, refl}
use Rattle.query_core.specs.declared.query.Query.{Query}
use Rattle.query_core.specs.declared.expressions.ExprParts.{ExprParts}
use Rattle.goal_space.specs.Answers.{IsAnswerTo, no_choice}
use Rattle.goal_space.specs.Asked.{AsksFor}
use Rattle.goal_space.specs.Children.{IsChildGoal}
use Rattle.goal_space.specs.Phases.{phase_goal_of_expr, IsOfExpression}
use Rattle.goal_space.specs.declared.goals.GoalKind.{GoalKind}
use Rattle.goal_space.specs.declared.phase.Phase.{Phase}
use Rattle.goal_space.specs.declared.phase.Phase.TheVariants.{Exploration, Implementation}

module _ (q : Query) where
  pub children_in_phase : (Member : ExprParts → Type 0) (phase : Phase) (e : ExprParts) (child : GoalKind)
      → IsChildGoal Member q (phase_goal_of_expr phase e) child ↔ IsOfExpression q phase e child
  children_in_phase Member Exploration e child = (λ is. is, λ is. is)
  children_in_phase Member Implementation e child = (λ is. is, λ is. is)

  pub asks_for_none : (phase : Phase) (e other : ExprParts) → AsksFor q (phase_goal_of_expr phase e) other → ⊥
  asks_for_none Exploration e other asks = asks
  asks_for_none Implementation e other asks = asks

  pub chooses_none : (phase : Phase) (e : ExprParts) → IsAnswerTo q (phase_goal_of_expr phase e) no_choice
  chooses_none Exploration e = refl
  chooses_none Implementation e = refl
