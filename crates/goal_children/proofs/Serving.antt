-- The goal of a physical expression that may serve a request.
use Rattle.std.proofs.Common.{◌≡◌, ℕ, Option, Some, None, sym, subst, ◌∙◌}
use Rattle.std.specs.Prelude.{MatchOption}
use Rattle.query_core.specs.Expressions.{expr_of}
use Rattle.query_core.specs.declared.expressions.ExprParts.{ExprParts}
use Rattle.query_core.specs.declared.query.Query.{Query}
use Rattle.query_core.specs.declared.expressions.PhysicalExpr.{PhysicalExpr}
use Rattle.request_props.specs.declared.request.Request.{Request}
use Rattle.query_core.proofs.ExpressionLemmas.{expr_of_one}
use Rattle.plan_tree.specs.Alternatives.{HasAlternative}
use Rattle.goal_space.specs.declared.goals.GoalKind.{GoalKind}
use Rattle.goal_space.specs.declared.goals.GoalKind.TheVariants.{OptE}
use Rattle.goal_children.specs.MemberJobs.{IsServed}

-- what is found of the physical expression is found of the expression
pub served : (q : Query) (wanted : Request) (e : ExprParts) (physical : PhysicalExpr) → e ≡ expr_of physical
    → (found : Option GoalKind)
    → MatchOption found ((mode : ℕ) → HasAlternative q physical wanted mode → ⊥) (λ goal. (goal ≡ OptE physical wanted)
    × ((mode : ℕ) × HasAlternative q physical wanted mode))
    → MatchOption found ((goal : GoalKind) → IsServed q wanted e goal → ⊥) (IsServed q wanted e)
served q wanted e physical is None none = λ goal by.
    none by.mode (subst (λ (p : PhysicalExpr). HasAlternative q p wanted by.mode)
    (expr_of_one by.physical physical (sym by.is ∙ is)) by.serves)
served q wanted e physical is (Some goal) some =
    record { physical = physical; is = is; mode = some.1.0; serves = some.1.1; number = some.0 }
