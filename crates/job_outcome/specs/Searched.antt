-- What a finished search has: the answers to its goals, and its lists in the order of words.
use Rattle.std.specs.Prelude.{◌≡◌, ◌==◌, ℕ, ◌-◌, ◌^◌, Bool, not, List, length, map, cond, Option, None, Some}
use Rattle.std.specs.List.{filter}
use Rattle.std.specs.List.Sorted.{IsPermutation, IsNonDecreasing, IsNonDecreasingBy}
use Rattle.query_core.specs.Goals.{has_goal_bit}
use Rattle.plan_tree.specs.declared.answers.Answered.{Answered}
use Rattle.goal_board.specs.Closing.{cells_of, finished_of}
use Rattle.goal_board.specs.declared.answers.Answer.{Answer}
use Rattle.goal_board.specs.declared.answers.Finished.{Finished}
use Rattle.job_outcome.specs.declared.searched.Searched.{Searched}
use Rattle.job_outcome.specs.declared.searched.Lists.{Lists}

-- words of members lack the bit of goals
abbrev pub is_member_word : ℕ → Bool
is_member_word word = not (has_goal_bit word)

-- no cost where it is the greatest number
abbrev pub cost_told : ℕ → Option ℕ
cost_told cost = cond (cost == 2 ^ 64 - 1) None (Some cost)

-- what the answer to the goal of this word tells
abbrev pub told_with : ℕ → Answer → Answered
told_with goal answer =
    record { goal = record { 0 = goal }; node = record { 0 = answer.node }; cost = cost_told answer.cost }

abbrev pub told_of : Finished → Answered
told_of f = told_with f.goal f.answer

-- the answers to all finished goals
abbrev pub answers_of : Searched → List Answered
answers_of searched = map told_of (finished_of searched.board)

-- how many goals are finished
abbrev pub goals_counted : Searched → ℕ
goals_counted searched = length (finished_of searched.board)

-- the members among the cells, ascending, and what is finished, ascending by the goals
pub record AreListsOf (searched : Searched) (lists : Lists) : Type 0 where
  pub finished : List Finished
  pub same : IsPermutation (finished_of searched.board) finished
  pub ascending : IsNonDecreasingBy (λ (f : Finished). f.goal) finished
  pub same_members : IsPermutation (filter is_member_word (cells_of searched.board)) lists.members
  pub rising : IsNonDecreasing lists.members
  pub goals_are : lists.goals ≡ map (λ (f : Finished). f.goal) finished
  pub answers_are : lists.answers.list ≡ map told_of finished
  pub who_are : lists.who ≡ map (λ (f : Finished). f.who) finished

-- there are lists of the search, and the fact holds of all that are
pub record HasLists (searched : Searched) (Fact : Lists → Type 0) : Type 0 where
  pub lists : Lists
  pub are : AreListsOf searched lists
  pub each : (others : Lists) → AreListsOf searched others → Fact others
