-- A group whose origin is shown in a cell is explored by a goal of the query.
use Rattle.std.proofs.Common.{◌≢◌, ℕ, ◌<◌, List, refl, inl}
use Rattle.query_core.specs.Expressions.{origin_of, IsCandidate}
use Rattle.query_core.specs.declared.query.Query.{Query}
use Rattle.query_core.specs.declared.words.KeyParts.{KeyParts}
use Rattle.board_rule.specs.Words.{cell_word}
use Rattle.board_rule.specs.Looks.{Looked, ShowsFinished, seen_closed, child_of, ShowsEntry, seen_there, asked_by}
use Rattle.board_rule.specs.Looks.{finished}
use Rattle.goal_space.specs.Goals.{IsGoal, child_goal}
use Rattle.goal_space.specs.Entries.{IsEntry}
use Rattle.goal_space.specs.Laws.{MembersAreAsked}
use Rattle.goal_space.specs.OfMembers.{asked_are_members}
use Rattle.goal_space.specs.declared.goals.GoalKind.TheVariants.{Exp, Imp}
use Rattle.goal_rules.specs.EntryLaws.{child_enters}
use Rattle.goal_rules.specs.Explored.{origin_word}
use Rattle.goal_rules.specs.Known.{EntriesAreMembers}
use Rattle.goal_rules.specs.Meaning.{meaning_of}

-- what the looks found in cells are entries
abbrev pub FindEntries : Query → ℕ → List (ℕ × ℕ) → Type 0
FindEntries q capacity looks = (place word : ℕ) → place < capacity → Looked looks (cell_word place) word → word ≢ 0
    → IsEntry q word

module _ (q : Query) (capacity : ℕ) (looks : List (ℕ × ℕ)) (found : FindEntries q capacity looks) where
  -- so what they show finished is one
  finished_entry : (word : ℕ) → ShowsFinished (meaning_of q) capacity looks word → IsEntry q word
  finished_entry _ (seen_closed goal place near some at closed) = found place goal near at some
  finished_entry _ (child_of goal child shown is) = (child_enters q goal child (finished_entry goal shown) is).0

  -- and what they show in a cell
  shown_entry : (word : ℕ) → ShowsEntry (meaning_of q) capacity looks word → IsEntry q word
  shown_entry _ (seen_there word place near some at) = found place word near at some
  shown_entry _ (asked_by goal word shown is) =
      inl (is.member, asked_are_members q is.goal is.member is.names.is_goal is.asks, is.number)
  shown_entry _ (finished goal shown) = finished_entry goal shown

  -- the origin is a member, so its group is implemented, and for that explored
  pub explored_group : EntriesAreMembers q → MembersAreAsked q → (group : KeyParts) → IsCandidate q (origin_of q group)
      → ShowsEntry (meaning_of q) capacity looks (origin_word q group)
      → IsGoal q (Exp group)
  explored_group members asked group candidate shown =
      let member = members (origin_of q group) candidate (shown_entry (origin_word q group) shown) in
      child_goal (Imp group) (Exp group) (asked (origin_of q group) member).0 (inl refl)
