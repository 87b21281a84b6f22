-- The answers of goals, in two words.
use Rattle.std.specs.Prelude.{ℕ, ◌≡◌, ◌-◌, ◌^◌, Option, None, Some}
use Rattle.query_core.specs.declared.query.Query.{Query}
use Rattle.best_answers.specs.declared.best.Best.{Best}
use Rattle.goal_space.specs.Entries.{NamesGoal}
use Rattle.goal_space.specs.Answers.{IsAnswerTo}
use Rattle.goal_space.specs.declared.goals.GoalKind.{GoalKind}

-- an answer's cost and its node, or the greatest number and 0 where there is no plan
abbrev pub AreWordsOf : Option Best → ℕ → ℕ → Type 0
AreWordsOf None cost node = (cost ≡ 2 ^ 64 - 1) × (node ≡ 0)
AreWordsOf (Some best) cost node = (cost ≡ best.cost) × (node ≡ best.node.0)

-- they are the words of the answer of the word's goal
pub record IsAnswerWord (q : Query) (word cost node : ℕ) : Type 0 where
  pub goal : GoalKind
  pub names : NamesGoal q word goal
  pub answer : Option Best
  pub is_answer : IsAnswerTo q goal answer
  pub words : AreWordsOf answer cost node

-- a goal has one answer at most
abbrev pub AnswersAreOne : Query → Type 0
AnswersAreOne q =
    (word cost node other_cost other_node : ℕ) → IsAnswerWord q word cost node
    → IsAnswerWord q word other_cost other_node
    → (cost ≡ other_cost) × (node ≡ other_node)
