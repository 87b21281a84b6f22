-- How the next child is found, the least word of each kind of child and of several kinds; and how kinds of children
-- come to a list.
use Rattle.std.specs.Prelude.{ℕ, ◌≡◌, ◌<◌, ◌≤◌, ◌⊎◌, ◌↔◌, IsTrue, List, All, Option, None, Some, nat_lt, if◌then◌else◌}
use Rattle.std.specs.List.{Contains}
use Rattle.query_core.specs.declared.query.Query.{Query}
use Rattle.query_core.specs.declared.words.KeyParts.{KeyParts}
use Rattle.query_core.specs.declared.expressions.Children.{Children}
use Rattle.query_core.specs.declared.expressions.ExprParts.{ExprParts}
use Rattle.query_core.specs.declared.expressions.PhysicalExpr.{PhysicalExpr}
use Rattle.xform_rules.specs.Rules.{binds}
use Rattle.xform_rules.specs.declared.rules.Rule.{Rule}
use Rattle.goal_space.specs.Words.{goal_word, IsGoalInRange}
use Rattle.goal_space.specs.Children.{IsLeft, IsLogicalIn, CanServe, IsListedIn}
use Rattle.goal_space.specs.Phases.{phase_goal_of_expr}
use Rattle.goal_space.specs.declared.goals.GoalKind.{GoalKind}
use Rattle.goal_space.specs.declared.goals.GoalKind.TheVariants.{Exp, OptE}
use Rattle.goal_children.specs.GoalLists.{AreRising}
use Rattle.goal_children.specs.declared.jobs.MemberJob.{MemberJob}
use Rattle.goal_children.specs.declared.jobs.MemberJob.TheVariants.{Transform, Serve}

-- ---- the least word

-- the goal is of the kind, and of those whose words aren't below the bound it has the least word
pub record IsLeastFrom (Kind : GoalKind → Type 0) (bound : ℕ) (goal : GoalKind) : Type 0 where
  pub is : Kind goal
  pub in_range : IsGoalInRange goal
  pub from : bound ≤ goal_word goal
  pub least : (other : GoalKind) → Kind other → bound ≤ goal_word other → goal_word goal ≤ goal_word other

-- the least from the bound on, or none where there is none
abbrev pub FindsFrom : (GoalKind → Type 0) → ℕ → Option GoalKind → Type 0
FindsFrom Kind bound None = (goal : GoalKind) → Kind goal → bound ≤ goal_word goal → ⊥
FindsFrom Kind bound (Some found) = IsLeastFrom Kind bound found

-- the one of the two whose word is less, if both are there
abbrev pub sooner_of : Option GoalKind → Option GoalKind → Option GoalKind
sooner_of None b = b
sooner_of (Some a) None = Some a
sooner_of (Some a) (Some b) = if nat_lt (goal_word b) (goal_word a) then Some b else Some a

-- ---- goals that come to a list

-- the goals of the kind have greater words than those of the list
abbrev pub AreBehind : (GoalKind → Type 0) → List GoalKind → Type 0
AreBehind Kind goals = (k l : GoalKind) → Contains goals k → Kind l → goal_word k < goal_word l

-- the goals of the kind came to the list, and no others
pub record Collects (Kind : GoalKind → Type 0) (old new : List GoalKind) : Type 0 where
  pub exact : (goal : GoalKind) → Contains new goal ↔ (Contains old goal ⊎ Kind goal)
  pub in_range : All IsGoalInRange old → All IsGoalInRange new

-- they came behind all others, so words that rose rise on where those of the kind are greater
pub record AppendsGoals (Kind : GoalKind → Type 0) (old new : List GoalKind) : Type 0 where
  pub collects : Collects Kind old new
  pub rises : AreRising old → AreBehind Kind old → AreRising new

-- each came to its place, so words that rose still rise
pub record InsertsGoals (Kind : GoalKind → Type 0) (old new : List GoalKind) : Type 0 where
  pub collects : Collects Kind old new
  pub rises : AreRising old → AreRising new

-- ---- kinds of children

-- the goal of the left group
abbrev pub IsOfLeftGroup : Children → GoalKind → Type 0
IsOfLeftGroup children goal = (group : KeyParts) × IsLeft children group × (goal ≡ Exp group)

-- the goal of the left group, where the rule binds a member of it
abbrev pub IsOfLeft : ExprParts → Rule → Children → GoalKind → Type 0
IsOfLeft e rule children goal = (group : KeyParts) × IsTrue (binds rule) × IsLeft children group × (goal ≡ Exp group)

-- the goal of a job of a member of the group
abbrev pub IsOfMembers : Query → List ℕ → KeyParts → MemberJob → GoalKind → Type 0
IsOfMembers q words group (Transform phase) goal = (e : ExprParts) × IsLogicalIn (IsListedIn q words) group e
    × (goal ≡ phase_goal_of_expr phase e)
IsOfMembers q words group (Serve wanted) goal = (e : PhysicalExpr) × CanServe (IsListedIn q words) q group wanted e
    × (goal ≡ OptE e wanted)
