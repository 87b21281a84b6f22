-- What a goal's word says of the words of its children and of what it asks for.
use Rattle.std.specs.Prelude.{◌≡◌, ℕ}
use Rattle.query_core.specs.Expressions.{word_of}
use Rattle.query_core.specs.declared.query.Query.{Query}
use Rattle.query_core.specs.declared.expressions.ExprParts.{ExprParts}
use Rattle.xform_rules.specs.Closure.{IsMember}
use Rattle.request_props.specs.Numbered.{IsWithinLimits}
use Rattle.goal_space.specs.Words.{goal_word, IsGoalInRange}
use Rattle.goal_space.specs.Children.{IsChildGoal}
use Rattle.goal_space.specs.Asked.{AsksFor}
use Rattle.goal_space.specs.Entries.{NamesGoal, IsChildWord, IsAskedWord}
use Rattle.goal_space.specs.declared.goals.GoalKind.{GoalKind}

-- a child's word is that of a child of the goal
abbrev pub ChildrenAreKnown : Query → Type 0
ChildrenAreKnown q = IsWithinLimits q → (goal : GoalKind) (word child : ℕ) → NamesGoal q word goal
    → IsChildWord q word child
    → (other : GoalKind) × IsChildGoal (IsMember q) q goal other × (goal_word other ≡ child)

-- a word that is asked for is that of a member that the goal asks for
abbrev pub AskedAreKnown : Query → Type 0
AskedAreKnown q = IsWithinLimits q → (goal : GoalKind) (word asked : ℕ) → NamesGoal q word goal
    → IsAskedWord q word asked
    → (e : ExprParts) × AsksFor q goal e × (word_of e ≡ asked)

-- a goal of the query has a word
abbrev pub ChildrenHaveWords : Query → Type 0
ChildrenHaveWords q = IsWithinLimits q → (goal other : GoalKind) (word : ℕ) → NamesGoal q word goal
    → IsChildGoal (IsMember q) q goal other
    → IsChildWord q word (goal_word other) × IsGoalInRange other
