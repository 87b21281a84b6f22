-- What holds of the children of all goals over a query.
use Rattle.std.specs.Prelude.{ℕ, ◌≡◌, ◌≤◌, ◌↔◌, List, length}
use Rattle.query_core.specs.declared.query.Query.{Query}
use Rattle.xform_rules.specs.Closure.{IsMember, IsClosureOf}
use Rattle.request_props.specs.Numbered.{lists_of, orders_of}
use Rattle.goal_space.specs.Words.{IsGoalInRange}
use Rattle.goal_space.specs.Children.{IsChildGoal}
use Rattle.goal_space.specs.Goals.{IsGoal}
use Rattle.goal_space.specs.declared.goals.GoalKind.{GoalKind}
use Rattle.goal_children.specs.Over.{IsGoalOver}
use Rattle.goal_children.specs.Children.{IsChildIn, AreChildren}

-- the children of a goal over a query are goals over it
abbrev pub ChildrenAreOver : Query → Type 0
ChildrenAreOver q = (words : List ℕ) (goal child : GoalKind) → IsGoalOver q goal → IsChildIn q words goal child
    → IsGoalOver q child

-- where a query has at most 60 hashed lists and orders, goals over it have words
abbrev pub GoalsOverHaveWords : Query → Type 0
GoalsOverHaveWords q = length (lists_of q) ≤ 60 → length (orders_of q) ≤ 60 → (goal : GoalKind) → IsGoalOver q goal
    → IsGoalInRange goal

-- and the children of one, ascending by their words, are one list
abbrev pub ChildrenAreOne : Query → Type 0
ChildrenAreOne q =
    length (lists_of q) ≤ 60 → length (orders_of q) ≤ 60
    → (words : List ℕ) (goal : GoalKind) (children others : List GoalKind)
    → IsGoalOver q goal → AreChildren q words goal children → AreChildren q words goal others → children ≡ others

-- the goals of a query are goals over it
abbrev pub GoalsAreOver : Query → Type 0
GoalsAreOver q = (goal : GoalKind) → IsGoal q goal → IsGoalOver q goal

-- the children over all members of the query's groups are those over the members by their words
abbrev pub ClosureHasChildren : Query → Type 0
ClosureHasChildren q =
    (words : List ℕ) (goal child : GoalKind) → IsClosureOf q words → IsChildIn q words goal child
    ↔ IsChildGoal (IsMember q) q goal child
