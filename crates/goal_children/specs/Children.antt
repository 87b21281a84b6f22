-- The children of a goal over listed members, in the order of their words.
use Rattle.std.specs.Prelude.{ℕ, ◌≡◌, ◌≤◌, ◌<◌, ◌↔◌, List, map, length, Option, None, Some, ⊤}
use Rattle.std.specs.List.{Contains}
use Rattle.std.specs.List.Sorted.{IsStrictlyIncreasing}
use Rattle.query_core.specs.declared.query.Query.{Query}
use Rattle.query_core.specs.declared.words.Goal.{Goal}
use Rattle.goal_space.specs.Words.{goal_word}
use Rattle.goal_space.specs.Children.{IsChildGoal, IsListedIn}
use Rattle.goal_space.specs.declared.goals.GoalKind.{GoalKind}

-- the second goal is a child of the first, over the listed members
abbrev pub IsChildIn : Query → List ℕ → GoalKind → GoalKind → Type 0
IsChildIn q words goal child = IsChildGoal (IsListedIn q words) q goal child

-- ---- one after the other

-- the goal's word is above the one before, if there is one
abbrev pub IsBehind : Option Goal → GoalKind → Type 0
IsBehind None goal = ⊤
IsBehind (Some before) goal = before.0 < goal_word goal

-- a child behind the one before, and none lies between the two
pub record IsNextChild (q : Query) (words : List ℕ) (goal : GoalKind) (before : Option Goal) (next : GoalKind) : Type 0
  where
    pub is_child : IsChildIn q words goal next
    pub behind : IsBehind before next
    pub least : (other : GoalKind) → IsChildIn q words goal other → IsBehind before other
        → goal_word next ≤ goal_word other

-- no child comes later
abbrev pub IsLastChild : Query → List ℕ → GoalKind → Option Goal → Type 0
IsLastChild q words goal before = (other : GoalKind) → IsChildIn q words goal other → IsBehind before other → ⊥

-- ---- all of them

-- the goals are the children of a goal, each once, ascending by their words
pub record AreChildren (q : Query) (words : List ℕ) (goal : GoalKind) (children : List GoalKind) : Type 0 where
  pub rises : IsStrictlyIncreasing (map goal_word children)
  pub exact : (child : GoalKind) → Contains children child ↔ IsChildIn q words goal child

-- the same of those whose words are below a limit
pub record AreChildrenBelow (q : Query) (words : List ℕ) (goal : GoalKind) (limit : ℕ) (children : List GoalKind) : Type
    0 where
  pub rises : IsStrictlyIncreasing (map goal_word children)
  pub exact : (child : GoalKind) → Contains children child ↔ (IsChildIn q words goal child × (goal_word child < limit))

-- the word is that of a child, and so many children come before it
pub record IsChildWordAt (q : Query) (words : List ℕ) (goal : GoalKind) (place : ℕ) (word : Goal) : Type 0 where
  pub child : GoalKind
  pub is_child : IsChildIn q words goal child
  pub number : word.0 ≡ goal_word child
  pub before : List GoalKind
  pub are_before : AreChildrenBelow q words goal (goal_word child) before
  pub so_many : length before ≡ place

-- there are no more children than that
pub record AreNoMore (q : Query) (words : List ℕ) (goal : GoalKind) (place : ℕ) : Type 0 where
  pub children : List GoalKind
  pub are_children : AreChildren q words goal children
  pub few : length children ≤ place
