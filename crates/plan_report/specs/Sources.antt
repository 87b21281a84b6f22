-- The answers that a plan is made of.
use Rattle.std.specs.Prelude.{List}
use Rattle.std.specs.List.{All, Contains}
use Rattle.query_core.specs.declared.query.Query.{Query}
use Rattle.plan_tree.specs.declared.answers.Answered.{Answered}
use Rattle.goal_space.specs.Words.{goal_word}
use Rattle.goal_space.specs.Goals.{IsGoal}
use Rattle.goal_space.specs.Answers.{TellsAnswer, words_told}
use Rattle.goal_space.specs.declared.goals.GoalKind.{GoalKind}

-- the answers to all goals of the query, and no others, in whatever order
pub record HasAnswers (q : Query) (answers : List Answered) : Type 0 where
  pub sound : All (TellsAnswer q) answers
  pub complete : (goal : GoalKind) → IsGoal q goal → Contains (words_told answers) (goal_word goal)
