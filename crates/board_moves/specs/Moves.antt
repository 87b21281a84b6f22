-- What several calls on a board together do to the hands of their seat, before the turn of a goal ends.
use Rattle.std.specs.Prelude.{◌≡◌, ◌≢◌, ◌==◌, ℕ, ◌+◌, ◌≤◌, List, ◌++◌, map, cond, Option}
use Rattle.board_rule.specs.Meaning.{Meaning}
use Rattle.board_rule.specs.Records.{Claimed}
use Rattle.board_rule.specs.Words.{full_word}
use Rattle.board_rule.specs.Looks.{Looked, ShowsFinished}
use Rattle.board_rule.specs.Seats.{Each}
use Rattle.board_rule.specs.declared.hands.Hands.{Hands}
use Rattle.goal_board.specs.declared.board.Right.{Right}
use Rattle.goal_board.specs.declared.answers.Answer.{Answer}
use Rattle.goal_board.specs.Calls.{seen, IsSeen, FindsFull}
use Rattle.board_moves.specs.Counts.{GoesOnAlone}
use Rattle.board_moves.specs.declared.progress.Progress.{Progress}
use Rattle.board_moves.specs.declared.progress.Progress.TheVariants.{Complete, Waiting, Full}

-- the seat looked, and no more
pub record OnlyLooks {R : Type 0} (v w : Hands R) : Type 0 where
  pub more : List (ℕ × ℕ)
  pub looks : IsSeen v more
  pub hands_are : w ≡ seen more v

-- the rights once that to the goal has so many waits more
abbrev pub with_waits : ℕ → ℕ → List Claimed → List Claimed
with_waits place waits rights = map (λ r. cond (r.place == place) (record r { waits = r.waits + waits }) r) rights

-- further looks, none of them at the full word; these words put into cells, the last one first; so many waits more of
-- the right to the goal at the place
pub record Moves {R : Type 0} (place : ℕ) (v : Hands R) (puts : List ℕ) (waits : ℕ) (w : Hands R) : Type 0 where
  pub words : Option (List ℕ)
  pub more : List (ℕ × ℕ)
  pub quiet : (value : ℕ) → Looked more full_word value → ⊥
  pub hands_are : w ≡ record v {
    alone = words;
    looks = more ++ v.looks;
    puts = puts ++ v.puts;
    rights = with_waits place waits v.rights;
  }
  -- how the words that a seat keeps while it is alone go on, where no put word is 0
  pub kept : Each (λ word. word ≢ 0) puts → GoesOnAlone place waits v.alone words

module _ {R : Type 0} (Adds : ℕ → Type 0) (v : Hands R) (before : Right) where
  -- a turn has come from hands and a right to others: what it put into cells it may put there
  pub record Proceeds (w : Hands R) (after : Right) : Type 0 where
    pub puts : List ℕ
    pub adds : Each Adds puts
    pub waits : ℕ
    pub moves : Moves before.place v puts waits w
    pub same_place : after.place ≡ before.place
    pub same_goal : after.goal ≡ before.goal
    pub more_waits : after.waits ≡ before.waits + waits

  -- it came to an entry that found every cell taken by another word, and then the full word was set
  pub record RunsOut (capacity : ℕ) (w : Hands R) (after : Right) : Type 0 where
    pub middle : Hands R
    pub proceeds : Proceeds middle after
    pub word : ℕ
    pub adds_it : Adds word
    pub full : FindsFull capacity middle word w

-- the looks show a child finished, and this is its answer
pub record IsAnsweredBy (meaning : Meaning) (capacity : ℕ) (looks : List (ℕ × ℕ)) (child : ℕ) (answer : Answer) : Type 0
  where
    pub finished : ShowsFinished meaning capacity looks child
    pub exact : meaning.answer child answer.cost answer.node

module _ {R : Type 0} (meaning : Meaning) (capacity : ℕ) (v : Hands R) (before : Right) where
  -- what came of one child: it is finished and has this answer, or the right has a wait, or the child found no cell
  abbrev pub Awaits : (child : ℕ) → Progress → Hands R → Right → Type 0
  Awaits child (Complete answer) w after = Proceeds (meaning.child before.goal) v before w after
      × (after.waits ≡ before.waits) × IsAnsweredBy meaning capacity w.looks child answer
  Awaits child Waiting w after = Proceeds (meaning.child before.goal) v before w after × (1 ≤ after.waits)
  Awaits child Full w after = RunsOut (meaning.child before.goal) v before capacity w after

-- complete with this answer where the right has no wait, and else waiting
abbrev pub IsDoneUnlessWaiting : Right → Answer → Progress → Type 0
IsDoneUnlessWaiting right answer (Complete given) = (right.waits ≡ 0) × (given ≡ answer)
IsDoneUnlessWaiting right answer Waiting = 1 ≤ right.waits
IsDoneUnlessWaiting right answer Full = ⊥

-- the word is one of these, and an entry
abbrev pub IsEntryOf : Meaning → (ℕ → Type 0) → ℕ → Type 0
IsEntryOf meaning Has word = Has word × meaning.entry word

-- the goals of those of these words that are entries are children of the goal
abbrev pub HaveChildGoals : Meaning → (ℕ → Type 0) → (ℕ → ℕ) → ℕ → Type 0
HaveChildGoals meaning Has goal_of goal = (word : ℕ) → IsEntryOf meaning Has word → meaning.child goal (goal_of word)
