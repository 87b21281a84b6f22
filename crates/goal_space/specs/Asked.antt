-- What a goal asks for: members that have to be there before it is finished.
use Rattle.std.specs.Prelude.{ℕ, ◌≡◌, ◌⊎◌, None, Some}
use Rattle.query_core.specs.Expressions.{children_of, origin_of, IsChild}
use Rattle.query_core.specs.declared.query.Query.{Query}
use Rattle.query_core.specs.declared.words.KeyParts.{KeyParts}
use Rattle.query_core.specs.declared.expressions.ExprParts.{ExprParts}
use Rattle.xform_rules.specs.Results.{HasResult}
use Rattle.xform_rules.specs.Closure.{IsMember}
use Rattle.xform_rules.specs.declared.rules.Rule.{Rule}
use Rattle.goal_space.specs.Children.{IsLogicalIn}
use Rattle.goal_space.specs.declared.goals.GoalKind.{GoalKind}
use Rattle.goal_space.specs.declared.goals.GoalKind.TheVariants.{Exp, ExpE, Xf, Imp, ImpE, Opt, OptE}

-- the other is a result of the rule at the expression, with a member bound where the rule binds one
abbrev pub IsResultOf : Query → Rule → ExprParts → ExprParts → Type 0
IsResultOf q rule e other =
    ((n : ℕ) × HasResult q rule e None n other)
    ⊎ ((bound : ExprParts) × (n : ℕ) × IsMember q bound × HasResult q rule e (Some bound) n other)

-- the expression, or the origin of a group that it stands on
abbrev pub IsBroughtBy : Query → ExprParts → ExprParts → Type 0
IsBroughtBy q e other = (other ≡ e) ⊎ ((group : KeyParts) × IsChild (children_of e.operator) group
    × (other ≡ origin_of q group))

-- the goal asks for the member: exploration for those that are logical, implementation for all, and a rule for its
-- results and the origins of the groups that these stand on
abbrev pub AsksFor : Query → GoalKind → ExprParts → Type 0
AsksFor q (Exp group) e = IsLogicalIn (IsMember q) group e
AsksFor q (ExpE x) e = ⊥
AsksFor q (Xf x rule) e = (other : ExprParts) × IsResultOf q rule x other × IsBroughtBy q other e
AsksFor q (Imp group) e = IsMember q e × (e.group ≡ group)
AsksFor q (ImpE x) e = ⊥
AsksFor q (Opt group wanted) e = ⊥
AsksFor q (OptE x wanted) e = ⊥
