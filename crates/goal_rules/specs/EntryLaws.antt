-- Laws of the entries of a query, as lemmas, for the rules of a board.
use Rattle.std.specs.Prelude.{ℕ, ◌≢◌, ◌≤◌, IsTrue}
use Rattle.std.proofs.Common.{arith, subst, inl, inr}
use Rattle.std.proofs.lemmas.Bool.{le-leb}
use Rattle.query_core.specs.Goals.{goal_bit, has_goal_bit}
use Rattle.query_core.specs.declared.query.Query.{Query}
use Rattle.query_core.proofs.ExpressionLemmas.{word_some}
use Rattle.goal_space.specs.Words.{goal_word}
use Rattle.goal_space.specs.Goals.{child_goal}
use Rattle.goal_space.specs.Entries.{IsEntry, IsChildWord, IsAskedWord}
use Rattle.goal_space.specs.OfMembers.{asked_are_members}
use Rattle.goal_space.specs.declared.goals.GoalKind.{GoalKind}

-- the word of a goal has the bit of goals
pub goal_high : (goal : GoalKind) → goal_bit ≤ goal_word goal
goal_high goal = omega arith

pub zero_is_none : (q : Query) (word : ℕ) → IsEntry q word → word ≢ 0
zero_is_none q word (inl (e, member, is)) none = absurd (omega (arith, word_some e, is, none))
zero_is_none q word (inr (goal, names)) none = let high = goal_high goal in let is = names.number in
    absurd (omega arith)

-- a child is an entry and a goal
pub child_enters : (q : Query) (word child : ℕ) → IsEntry q word → IsChildWord q word child → IsEntry q child
    × IsTrue (has_goal_bit child)
child_enters q word child enters is =
    let high = goal_high is.other in (
      inr (is.other, record { is_goal = child_goal is.goal is.other is.names.is_goal is.is_child; number = is.number }),
      subst (λ (x : ℕ). IsTrue (has_goal_bit x)) is.number (le-leb goal_bit (goal_word is.other) high),
    )

-- what a goal asks for is an entry
pub asked_enters : (q : Query) (word asked : ℕ) → IsEntry q word → IsTrue (has_goal_bit word) → IsAskedWord q word asked
    → IsEntry q asked
asked_enters q word asked enters is_goal is =
    inl (is.member, asked_are_members q is.goal is.member is.names.is_goal is.asks, is.number)
