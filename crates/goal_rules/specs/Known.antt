-- What words of entries stand for.
use Rattle.std.specs.Prelude.{ℕ, ◌≡◌, Option}
use Rattle.query_core.specs.Expressions.{word_of, IsCandidate}
use Rattle.query_core.specs.declared.query.Query.{Query}
use Rattle.query_core.specs.declared.words.KeyParts.{KeyParts}
use Rattle.query_core.specs.declared.expressions.ExprParts.{ExprParts}
use Rattle.xform_rules.specs.Closure.{IsMember}
use Rattle.request_props.specs.Numbered.{IsProps}
use Rattle.request_props.specs.declared.props.Props.{Props}
use Rattle.best_answers.specs.declared.best.Best.{Best}
use Rattle.goal_space.specs.Words.{goal_word, IsGoalInRange}
use Rattle.goal_space.specs.Children.{IsChildGoal}
use Rattle.goal_space.specs.Goals.{IsGoal}
use Rattle.goal_space.specs.Asked.{AsksFor}
use Rattle.goal_space.specs.Answers.{IsAnswerTo}
use Rattle.goal_space.specs.Entries.{IsEntry, IsChildWord, IsAskedWord}
use Rattle.goal_space.specs.declared.goals.GoalKind.{GoalKind}
use Rattle.goal_space.specs.declared.goals.GoalKind.TheVariants.{Exp}
use Rattle.goal_rules.specs.Answers.{AreWordsOf, IsAnswerWord}
use Rattle.goal_rules.specs.Explored.{IsExplorationOf}

-- an entry that is the word of a candidate is the word of a member
abbrev pub EntriesAreMembers : Query → Type 0
EntriesAreMembers q = (e : ExprParts) → IsCandidate q e → IsEntry q (word_of e) → IsMember q e

-- what is known of the word of a goal
pub record IsKnownWord (q : Query) (goal : GoalKind) : Type 0 where
  pub entry : IsEntry q (goal_word goal) → IsGoal q goal
  pub child : (word : ℕ) → IsChildWord q (goal_word goal) word → (other : GoalKind)
      × IsChildGoal (IsMember q) q goal other × (goal_word other ≡ word)
  pub asked : (word : ℕ) → IsAskedWord q (goal_word goal) word → (e : ExprParts) × AsksFor q goal e × (word_of e ≡ word)
  pub answer : (cost node : ℕ) → IsAnswerWord q (goal_word goal) cost node → (answer : Option Best)
      × IsAnswerTo q goal answer × AreWordsOf answer cost node

-- where a query has props, the word of a goal tells the goal
abbrev pub GoalWordsAreKnown : Query → Type 0
GoalWordsAreKnown q = (props : Props) → IsProps q props → (goal : GoalKind) → IsGoalInRange goal → IsKnownWord q goal

-- and so the exploration of a group is known
abbrev pub ExplorationsAreKnown : Query → Type 0
ExplorationsAreKnown q = (props : Props) → IsProps q props → (group : KeyParts) → IsGoal q (Exp group)
    → IsExplorationOf q group
