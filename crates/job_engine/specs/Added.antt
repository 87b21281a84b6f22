-- What the turn of a goal may put into cells.
use Rattle.std.specs.Prelude.{ℕ}
use Rattle.query_core.specs.declared.query.Query.{Query}
use Rattle.goal_space.specs.Entries.{NamesGoal}
use Rattle.goal_space.specs.declared.goals.GoalKind.{GoalKind}
use Rattle.job_turns.specs.Works.{AddsWord}

-- what the turn of the goal with the word may put in: its children, and the members that it brings
abbrev pub AddsOf : Query → ℕ → ℕ → Type 0
AddsOf q word added = (goal : GoalKind) × NamesGoal q word goal × AddsWord q goal added
