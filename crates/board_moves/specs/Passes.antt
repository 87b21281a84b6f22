-- What one pass over the words that a group may have as members finds, and what is seen of one word.
use Rattle.std.specs.Prelude.{◌≡◌, ◌⊎◌, ℕ, List, length, Option, None, Some, Result, Ok, Err}
use Rattle.board_rule.specs.Meaning.{Meaning}
use Rattle.board_rule.specs.Looks.{ShowsFinished, ShowsEntry}
use Rattle.board_rule.specs.Seats.{Among}
use Rattle.board_rule.specs.declared.hands.Hands.{Hands}
use Rattle.goal_board.specs.declared.board.Right.{Right}
use Rattle.goal_board.specs.Calls.{seen, IsSeen}
use Rattle.board_moves.specs.Moves.{OnlyLooks, Proceeds, RunsOut}
use Rattle.board_moves.specs.Collects.{FoundIn, FoundNowhere, FoundOpen, Falls, Counts, FindsOpenGoal}
use Rattle.board_moves.specs.declared.settled.Seen.{Seen}
use Rattle.board_moves.specs.declared.settled.Seen.TheVariants.{Absent, Explored, Unexplored}

module _ {R : Type 0} (meaning : Meaning) (capacity : ℕ) (v : Hands R) where
  -- a goal was found in no cell, or open, and wasn't shown finished before
  pub record SeesOpen (goal : ℕ) (w : Hands R) : Type 0 where
    pub more : List (ℕ × ℕ)
    pub looks : IsSeen v more
    pub hands_are : w ≡ seen more v
    pub not_finished : FoundNowhere capacity more goal ⊎ FoundOpen capacity more goal
    pub unknown : ShowsFinished meaning capacity v.looks goal → ⊥

  -- whether a goal is finished
  abbrev pub SeesGoal : (goal : ℕ) → Seen → Hands R → Type 0
  SeesGoal goal Absent w = ⊥
  SeesGoal goal Explored w = OnlyLooks v w × ShowsFinished meaning capacity w.looks goal
  SeesGoal goal (Unexplored other) w = (other ≡ goal) × SeesOpen goal w

  -- a word was found in no cell, and wasn't shown in one before
  pub record SeesNone (word : ℕ) (w : Hands R) : Type 0 where
    pub more : List (ℕ × ℕ)
    pub looks : IsSeen v more
    pub hands_are : w ≡ seen more v
    pub nowhere : FoundNowhere capacity more word
    pub unknown : ShowsEntry meaning capacity v.looks word → ⊥

  -- a word was found in a cell
  pub record SeesIn (word : ℕ) (w : Hands R) : Type 0 where
    pub more : List (ℕ × ℕ)
    pub looks : IsSeen v more
    pub hands_are : w ≡ seen more v
    pub there : FoundIn capacity more word

  module _ (Has : ℕ → Type 0) (goal_of : ℕ → ℕ) where
    -- whether a word is in a cell, and its goal finished
    abbrev pub Sees : (word : ℕ) → Seen → Hands R → Type 0
    Sees word Absent w = SeesNone word w
    Sees word Explored w = SeesIn word w × ShowsFinished meaning capacity w.looks (goal_of word)
    Sees word (Unexplored goal) w = FindsOpenGoal meaning capacity Has goal_of v goal w

  -- a pass that found so many of the words, among them all that were shown in cells before
  pub record CountsAgain (Has : ℕ → Type 0) (number : ℕ) (w : Hands R) : Type 0 where
    pub more : List (ℕ × ℕ)
    pub looks : IsSeen v more
    pub hands_are : w ≡ seen more v
    pub counts : Counts Has capacity more number
    pub knew : (word : ℕ) → Has word → ShowsEntry meaning capacity v.looks word → Among counts.found word

  module _ (Has : ℕ → Type 0) (goal_of : ℕ → ℕ) where
    -- the same, where the looks show the goals of all of them finished
    pub record CollectsAll (number : ℕ) (w : Hands R) : Type 0 where
      pub pass : CountsAgain Has number w
      pub finished : (word : ℕ) → Among pass.counts.found word → ShowsFinished meaning capacity w.looks (goal_of word)

    -- the first pass: so many were found, and their goals are finished, or the goal of one isn't
    abbrev pub Collects : Result ℕ ℕ → Hands R → Type 0
    Collects (Ok number) w = CollectsAll number w
    Collects (Err goal) w = FindsOpenGoal meaning capacity Has goal_of v goal w

    -- the words that were found: all that were shown in cells before; their goals are finished, unless the right has a
    -- wait
    pub record AwaitsAll (before : Right) (number : ℕ) (w : Hands R) (after : Right) : Type 0 where
      pub proceeds : Proceeds (meaning.child before.goal) v before w after
      pub found : List ℕ
      pub falls : Falls found
      pub number_is : number ≡ length found
      pub knew : (word : ℕ) → Has word → ShowsEntry meaning capacity v.looks word → Among found word
      pub each : (word : ℕ) → Among found word → Has word × ShowsEntry meaning capacity w.looks word
      pub finished : after.waits ≡ 0 → (word : ℕ) → Among found word
          → ShowsFinished meaning capacity w.looks (goal_of word)

    -- so many words were found in cells, and their goals awaited, or one of these found no cell
    abbrev pub AwaitsFound : (before : Right) → Option ℕ → Hands R → Right → Type 0
    AwaitsFound before (Some number) w after = AwaitsAll before number w after
    AwaitsFound before None w after = RunsOut (meaning.child before.goal) v before capacity w after
