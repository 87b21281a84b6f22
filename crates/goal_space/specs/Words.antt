-- The words of goals.
use Rattle.std.specs.Prelude.{ℕ, ◌≡◌}
use Rattle.query_core.specs.Keys as keys
use Rattle.query_core.specs.Keys.{key_number}
use Rattle.query_core.specs.Expressions.{word_of, expr_of, IsPacked}
use Rattle.query_core.specs.Goals.{goal_number}
use Rattle.query_core.specs.declared.words.Key.{Key}
use Rattle.query_core.specs.declared.words.Expr.{Expr}
use Rattle.query_core.specs.declared.words.KeyParts.{KeyParts}
use Rattle.query_core.specs.declared.words.GoalParts.{GoalParts}
use Rattle.query_core.specs.declared.words.GoalParts.TheVariants as parts
use Rattle.query_core.specs.declared.expressions.ExprParts.{ExprParts}
use Rattle.xform_rules.specs.Rules.{rule_number}
use Rattle.request_props.specs.Requests as requests
use Rattle.request_props.specs.Requests.{code_of}
use Rattle.goal_space.specs.declared.goals.GoalKind.{GoalKind}
use Rattle.goal_space.specs.declared.goals.GoalKind.TheVariants.{Exp, ExpE, Xf, Imp, ImpE, Opt, OptE}

-- the key of a group
abbrev pub key_of : KeyParts → Key
key_of group = record { 0 = key_number group }

-- the word of an expression
abbrev pub expr_word : ExprParts → Expr
expr_word e = record { 0 = word_of e }

-- the goal with keys, words, numbers and codes in place of what they stand for
abbrev pub parts_of : GoalKind → GoalParts
parts_of (Exp group) = parts.Exp (key_of group)
parts_of (ExpE e) = parts.ExpE (expr_word e)
parts_of (Xf e rule) = parts.Xf (expr_word e) (rule_number rule)
parts_of (Imp group) = parts.Imp (key_of group)
parts_of (ImpE e) = parts.ImpE (expr_word e)
parts_of (Opt group wanted) = parts.Opt (key_of group) (code_of wanted)
parts_of (OptE e wanted) = parts.OptE (expr_word (expr_of e)) (code_of wanted)

-- the word of a goal
abbrev pub goal_word : GoalKind → ℕ
goal_word goal = goal_number (parts_of goal)

-- groups, expressions and requests are those that have a number
abbrev pub IsGoalInRange : GoalKind → Type 0
IsGoalInRange (Exp group) = keys.IsGroupInRange group
IsGoalInRange (ExpE e) = IsPacked e
IsGoalInRange (Xf e rule) = IsPacked e
IsGoalInRange (Imp group) = keys.IsGroupInRange group
IsGoalInRange (ImpE e) = IsPacked e
IsGoalInRange (Opt group wanted) = keys.IsGroupInRange group × requests.IsRequestInRange wanted
IsGoalInRange (OptE e wanted) = IsPacked (expr_of e) × requests.IsRequestInRange wanted

-- the number is the goal's word
pub record HasWord (goal : GoalKind) (word : ℕ) : Type 0 where
  pub in_range : IsGoalInRange goal
  pub number : goal_word goal ≡ word
