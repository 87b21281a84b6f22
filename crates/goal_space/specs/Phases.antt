-- The goals of a phase, in which rules explore or implement, and what the goal of an expression waits for in it.
use Rattle.std.specs.Prelude.{Bool, true, false, ◌≡◌, ◌⊎◌}
use Rattle.query_core.specs.Expressions.{children_of, IsChild}
use Rattle.query_core.specs.declared.query.Query.{Query}
use Rattle.query_core.specs.declared.words.KeyParts.{KeyParts}
use Rattle.query_core.specs.declared.expressions.Children.{Children}
use Rattle.query_core.specs.declared.expressions.ExprParts.{ExprParts}
use Rattle.xform_rules.specs.Rules.{explores}
use Rattle.xform_rules.specs.Results.{Applies}
use Rattle.xform_rules.specs.declared.rules.Rule.{Rule}
use Rattle.goal_space.specs.declared.goals.GoalKind.{GoalKind}
use Rattle.goal_space.specs.declared.goals.GoalKind.TheVariants.{Exp, ExpE, Xf, Imp, ImpE}
use Rattle.goal_space.specs.declared.phase.Phase.{Phase}
use Rattle.goal_space.specs.declared.phase.Phase.TheVariants.{Exploration, Implementation}

-- the goal of a group in a phase
abbrev pub phase_goal_of_group : Phase → KeyParts → GoalKind
phase_goal_of_group Exploration group = Exp group
phase_goal_of_group Implementation group = Imp group

-- the goal of an expression in a phase
abbrev pub phase_goal_of_expr : Phase → ExprParts → GoalKind
phase_goal_of_expr Exploration e = ExpE e
phase_goal_of_expr Implementation e = ImpE e

-- the rules of the phase explore
abbrev pub does_explore : Phase → Bool
does_explore Exploration = true
does_explore Implementation = false

-- the goal of one of the groups
abbrev pub IsOfGroups : Phase → Children → GoalKind → Type 0
IsOfGroups phase children goal = (group : KeyParts) × IsChild children group × (goal ≡ phase_goal_of_group phase group)

-- the rule is one of the phase, and applies to the expression
abbrev pub IsTried : Query → Phase → ExprParts → Rule → Type 0
IsTried q phase e rule = (explores rule ≡ does_explore phase) × Applies q rule e

-- the goal of one rule at the expression, if it is tried there
abbrev pub IsOfRule : Query → Phase → ExprParts → Rule → GoalKind → Type 0
IsOfRule q phase e rule goal = IsTried q phase e rule × (goal ≡ Xf e rule)

-- the goal of some rule of the phase at the expression
abbrev pub IsRuleAt : Query → Phase → ExprParts → GoalKind → Type 0
IsRuleAt q phase e goal = (rule : Rule) × IsOfRule q phase e rule goal

-- a child of the goal of an expression in a phase
abbrev pub IsOfExpression : Query → Phase → ExprParts → GoalKind → Type 0
IsOfExpression q phase e goal = IsOfGroups phase (children_of e.operator) goal ⊎ IsRuleAt q phase e goal
