-- The list of the goals of a query.
use Rattle.std.specs.Prelude.{ℕ, List, All}
use Rattle.std.specs.List.{Contains}
use Rattle.std.specs.List.Sorted.{IsStrictlyIncreasing}
use Rattle.query_core.specs.declared.query.Query.{Query}
use Rattle.goal_space.specs.Words.{goal_word}
use Rattle.goal_space.specs.Goals.{IsGoal}
use Rattle.goal_space.specs.Entries.{IsGoalWord}
use Rattle.goal_space.specs.declared.goals.GoalKind.{GoalKind}

-- the words of all goals of the query, and no others, strictly ascending
pub record AreGoalsOf (q : Query) (words : List ℕ) : Type 0 where
  pub ascending : IsStrictlyIncreasing words
  pub sound : All (IsGoalWord q) words
  pub complete : (goal : GoalKind) → IsGoal q goal → Contains words (goal_word goal)
