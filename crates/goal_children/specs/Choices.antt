-- What a choice of plans asks for: of its own group by enforcers, of other groups by alternatives.
use Rattle.std.specs.Prelude.{ℕ, ◌≡◌, ◌<◌, ◌⊎◌, List, Option, Some}
use Rattle.query_core.specs.declared.query.Query.{Query}
use Rattle.query_core.specs.declared.words.KeyParts.{KeyParts}
use Rattle.query_core.specs.Expressions.{physical_children}
use Rattle.query_core.specs.declared.expressions.Children.{Children}
use Rattle.query_core.specs.declared.expressions.Children.TheVariants as arities
use Rattle.query_core.specs.declared.expressions.PhysicalExpr.{PhysicalExpr}
use Rattle.request_props.specs.declared.request.Request.{Request}
use Rattle.plan_space.specs.declared.lines.Line.{Line}
use Rattle.plan_space.specs.Alternatives.{IsAlternative, asked_of}
use Rattle.plan_space.specs.Choices.{groups_of}
use Rattle.plan_space.specs.Enforcers.{EnforcedBy}
use Rattle.goal_space.specs.Children.{IsAsked, AsksOf, CanEnforce}
use Rattle.goal_space.specs.declared.goals.GoalKind.{GoalKind}
use Rattle.goal_space.specs.declared.goals.GoalKind.TheVariants.{Imp, Opt}

-- the goal of the group for what an enforcer asks of it
abbrev pub IsOfEnforcer : Query → KeyParts → Request → GoalKind → Type 0
IsOfEnforcer q group wanted goal = (e : EnforcedBy) × CanEnforce q group wanted e × (goal ≡ Opt group e.below)

-- the goal is one that a group for a request waits for beside its members
abbrev pub IsBesideMembers : Query → KeyParts → Request → GoalKind → Type 0
IsBesideMembers q group wanted goal = (goal ≡ Imp group) ⊎ IsOfEnforcer q group wanted goal

-- the goal of a group for what the expression asks of it
abbrev pub IsOfAlternatives : Query → PhysicalExpr → Request → GoalKind → Type 0
IsOfAlternatives q e wanted goal = (group : KeyParts) × (below : Request) × AsksOf q e wanted group below
    × (goal ≡ Opt group below)

-- the goal of one of the groups for the request at its place
abbrev pub IsOfWishes : List KeyParts → List Request → GoalKind → Type 0
IsOfWishes groups wishes goal = (group : KeyParts) × (below : Request) × IsAsked groups wishes group below
    × (goal ≡ Opt group below)

-- the goal of the group for the request, if there is one
abbrev pub IsOfRequest : KeyParts → Option Request → GoalKind → Type 0
IsOfRequest group wanted goal = (below : Request) × (wanted ≡ Some below) × (goal ≡ Opt group below)

-- the goal of a child for what is asked of it: of the one child or of the left, and of the right
abbrev pub IsOfAsked : Children → Option Request → Option Request → GoalKind → Type 0
IsOfAsked arities.Zero first second goal = ⊥
IsOfAsked (arities.One child) first second goal = IsOfRequest child first goal
IsOfAsked (arities.Two left right) first second goal = IsOfRequest left first goal ⊎ IsOfRequest right second goal

-- the goal of a group for what the expression asks of it in this mode
abbrev pub IsOfMode : Query → PhysicalExpr → Request → ℕ → GoalKind → Type 0
IsOfMode q e wanted mode goal =
    (line : Line) × IsAlternative q e wanted mode line
    × IsOfWishes (groups_of (physical_children e.operator)) (asked_of line wanted) goal

-- the same in some mode below the limit
abbrev pub IsOfModesBelow : Query → PhysicalExpr → Request → ℕ → GoalKind → Type 0
IsOfModesBelow q e wanted limit goal = (mode : ℕ) × (mode < limit) × IsOfMode q e wanted mode goal
