-- Goals by their words.
use Rattle.std.specs.Prelude.{ℕ, ◌≡◌, ◌<◌, ◌≤◌, List, All, get_or, length, map}
use Rattle.std.specs.List.{Contains}
use Rattle.std.specs.List.Sorted.{IsStrictlyIncreasing}
use Rattle.goal_space.specs.Words.{goal_word, HasWord, IsGoalInRange}
use Rattle.goal_space.specs.declared.goals.GoalKind.{GoalKind}

-- the words of the goals rise
abbrev pub AreRising : List GoalKind → Type 0
AreRising goals = IsStrictlyIncreasing (map goal_word goals)

-- the word is that of a goal
abbrev pub IsWordOfGoal : ℕ → Type 0
IsWordOfGoal word = (goal : GoalKind) × HasWord goal word

-- the words are those of these goals, whose parts fit
pub record HaveGoalWords (words : List ℕ) (goals : List GoalKind) : Type 0 where
  pub numbers : map goal_word goals ≡ words
  pub in_range : All IsGoalInRange goals

-- the word is that of one of the goals
abbrev pub HaveWord : List GoalKind → ℕ → Type 0
HaveWord goals word = Contains (map goal_word goals) word

-- goals before the place have lesser words, if words rise, and those from it on have greater ones
pub record IsPlaceFor (goals : List GoalKind) (word place : ℕ) : Type 0 where
  pub within : place ≤ length goals
  pub before : AreRising goals → (k : ℕ) → k < place → get_or (map goal_word goals) k 0 < word
  pub after : (k : ℕ) → place ≤ k → k < length goals → word < get_or (map goal_word goals) k 0
