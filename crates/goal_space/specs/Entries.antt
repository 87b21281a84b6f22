-- Members and goals as words: the entries of a query.
use Rattle.std.specs.Prelude.{ℕ, ◌≡◌, ◌⊎◌}
use Rattle.query_core.specs.Expressions.{word_of}
use Rattle.query_core.specs.declared.query.Query.{Query}
use Rattle.query_core.specs.declared.expressions.ExprParts.{ExprParts}
use Rattle.xform_rules.specs.Closure.{IsMember, IsMemberWord}
use Rattle.goal_space.specs.Words.{goal_word}
use Rattle.goal_space.specs.Children.{IsChildGoal}
use Rattle.goal_space.specs.Goals.{IsGoal}
use Rattle.goal_space.specs.Asked.{AsksFor}
use Rattle.goal_space.specs.declared.goals.GoalKind.{GoalKind}

-- the word is that of this goal of the query
pub record NamesGoal (q : Query) (word : ℕ) (goal : GoalKind) : Type 0 where
  pub is_goal : IsGoal q goal
  pub number : goal_word goal ≡ word

-- the word is that of a goal of the query
abbrev pub IsGoalWord : Query → ℕ → Type 0
IsGoalWord q word = (goal : GoalKind) × NamesGoal q word goal

-- the word is that of a member or of a goal
abbrev pub IsEntry : Query → ℕ → Type 0
IsEntry q word = IsMemberWord q word ⊎ IsGoalWord q word

-- the second word is that of a child of the first one's goal
pub record IsChildWord (q : Query) (word child : ℕ) : Type 0 where
  pub goal : GoalKind
  pub other : GoalKind
  pub names : NamesGoal q word goal
  pub is_child : IsChildGoal (IsMember q) q goal other
  pub number : goal_word other ≡ child

-- the second word is that of a member that the first one's goal asks for
pub record IsAskedWord (q : Query) (word asked : ℕ) : Type 0 where
  pub goal : GoalKind
  pub member : ExprParts
  pub names : NamesGoal q word goal
  pub asks : AsksFor q goal member
  pub number : word_of member ≡ asked
