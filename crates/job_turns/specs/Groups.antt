-- The goals of a group's logical members.
use Rattle.std.specs.Prelude.{ℕ, Option, None, Some}
use Rattle.query_core.specs.Goals.{goal_number}
use Rattle.query_core.specs.declared.words.Expr.{Expr}
use Rattle.query_core.specs.declared.words.GoalParts.TheVariants as parts

-- the word of the goal that implements the expression of this word
abbrev pub implemented : ℕ → ℕ
implemented word = goal_number (parts.ImpE (record { 0 = word }))

-- a word as that of an expression
abbrev pub as_expr : Option ℕ → Option Expr
as_expr None = None
as_expr (Some word) = Some (record { 0 = word })
