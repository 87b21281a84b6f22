-- What each call that puts, finds or reads does to the hands of its seat, and what its answer means.
use Rattle.std.specs.Prelude.{◌≡◌, ◌≢◌, ◌⊎◌, ℕ, ◌^◌, ◌<◌, ◌≤◌, List, [], ◌∷◌, ◌++◌, slice_index}
use Rattle.std.specs.Prelude.{Option, Some, None, is_some, Bool, false, IsTrue}
use Rattle.word_table.specs.Probing.{home_of, steps_to}
use Rattle.word_table.specs.declared.outcome.Inserted.{Inserted}
use Rattle.word_table.specs.declared.outcome.Inserted.TheVariants.{Fresh, Known, Full}
use Rattle.board_rule.specs.Meaning.{Meaning}
use Rattle.board_rule.specs.Words.{full_word, cell_word, head_word, cost_word, node_word}
use Rattle.board_rule.specs.Looks.{Looked, SawOther, SawOthers, ShowsFinished, ShowsEntry, ShowsFull}
use Rattle.board_rule.specs.Seats.{looked, placed, filled}
use Rattle.board_rule.specs.declared.hands.Hands.{Hands}
use Rattle.goal_board.specs.Alone.{LoneFindsReady}
use Rattle.goal_board.specs.declared.answers.Answer.{Answer}

-- the hands with further looks
abbrev pub seen : {R : Type 0} → List (ℕ × ℕ) → Hands R → Hands R
seen more v = record v { looks = more ++ v.looks }

-- where the seat was alone, these looks found the words that it kept
abbrev pub AgreesAlone : {R : Type 0} → Hands R → List (ℕ × ℕ) → Type 0
AgreesAlone v looks = (kept : List ℕ) → v.alone ≡ Some kept → (word value : ℕ) → Looked looks word value
    → slice_index kept word ≡ value

-- a call's looks: none at the full word, as the words that were kept, and what was seen in a cell stays
pub record IsSeen {R : Type 0} (v : Hands R) (looks : List (ℕ × ℕ)) : Type 0 where
  pub quiet : (value : ℕ) → Looked looks full_word value → ⊥
  pub alone : AgreesAlone v looks
  pub stays : (place word value : ℕ) → Looked v.looks (cell_word place) word → word ≢ 0
      → Looked looks (cell_word place) value → value ≡ word

-- every cell was found taken by another word
abbrev pub SawAllOthers : ℕ → List (ℕ × ℕ) → ℕ → Type 0
SawAllOthers capacity looks word = (place : ℕ) → place < capacity → SawOther looks word place

module _ {R : Type 0} (capacity : ℕ) (v : Hands R) (word : ℕ) where
  -- the word was put into an empty cell
  pub record PutsFresh (at : ℕ) (w : Hands R) : Type 0 where
    pub near : at < capacity
    pub more : List (ℕ × ℕ)
    pub looks : IsSeen v ((cell_word at, 0) ∷ more)
    pub hands_are : w ≡ placed (seen more v) at word

  -- a look found the word in the cell
  pub record FindsAt (at : ℕ) (w : Hands R) : Type 0 where
    pub near : at < capacity
    pub more : List (ℕ × ℕ)
    pub looks : IsSeen v more
    pub stands : Looked more (cell_word at) word
    pub hands_are : w ≡ seen more v

  -- every cell was found taken by another word, and the full word was set
  pub record FindsFull (w : Hands R) : Type 0 where
    pub more : List (ℕ × ℕ)
    pub looks : IsSeen v more
    pub others : SawAllOthers capacity more word
    pub hands_are : w ≡ filled (seen more v)

  abbrev pub Inserts : Inserted → Hands R → Type 0
  Inserts (Fresh at) w = PutsFresh at w
  Inserts (Known at) w = FindsAt at w
  Inserts Full w = FindsFull w

  -- the looks from the word's home on found other words, and then an empty cell
  pub record EndsAtGap (looks : List (ℕ × ℕ)) : Type 0 where
    pub gap : ℕ
    pub near : gap < capacity
    pub empty : Looked looks (cell_word gap) 0
    pub passed : SawOthers capacity looks word (steps_to capacity (home_of word capacity) gap)

  -- the word was in no cell at the look at an empty one, or all cells held other words
  pub record FindsNone (w : Hands R) : Type 0 where
    pub more : List (ℕ × ℕ)
    pub looks : IsSeen v more
    pub nowhere : EndsAtGap more ⊎ SawAllOthers capacity more word
    pub hands_are : w ≡ seen more v

  abbrev pub Finds : Option ℕ → Hands R → Type 0
  Finds (Some at) w = FindsAt at w
  Finds None w = FindsNone w

  -- whether the word was found
  abbrev pub FindsWhether : Bool → Hands R → Type 0
  FindsWhether found w = (at : Option ℕ) × (found ≡ is_some at) × Finds at w

-- what was found in a cell: 0 is an empty one
abbrev pub found_word : Option ℕ → ℕ
found_word None = 0
found_word (Some word) = word

-- one look at the cell
pub record ReadsCell {R : Type 0} (v : Hands R) (at : ℕ) (found : Option ℕ) (w : Hands R) : Type 0 where
  pub hands_are : w ≡ looked v (cell_word at) (found_word found)
  pub some_word : (word : ℕ) → found ≡ Some word → word ≢ 0
  pub looks : IsSeen v ((cell_word at, found_word found) ∷ [])

-- where the looks show the full word set, some entry isn't shown by them
abbrev pub LeavesOut : Meaning → ℕ → List (ℕ × ℕ) → Type 0
LeavesOut meaning capacity looks = ShowsFull looks → (word : ℕ) × meaning.entry word
    × (ShowsEntry meaning capacity looks word → ⊥)

module _ {R : Type 0} (meaning : Meaning) (capacity : ℕ) (v : Hands R) (at : ℕ) where
  -- the head was found closed, and the answer words then
  pub record ReadsAnswer (answer : Answer) (w : Hands R) : Type 0 where
    pub head : ℕ
    pub closed : 2 ^ 63 ≤ head
    pub looks : IsSeen v ((node_word at, answer.node) ∷ ((cost_word at, answer.cost) ∷ ((head_word at, head) ∷ [])))
    pub hands_are : w ≡ seen ((node_word at, answer.node) ∷ ((cost_word at, answer.cost) ∷ ((head_word at, head) ∷ [])))
        v
    -- it is an answer of the goal that a look found there
    pub exact : (goal : ℕ) → goal ≢ 0 → Looked v.looks (cell_word at) goal → meaning.answer goal answer.cost answer.node
    pub left_out : LeavesOut meaning capacity w.looks

  -- the head was found open
  pub record FindsOpen (w : Hands R) : Type 0 where
    pub head : ℕ
    pub not_closed : head < 2 ^ 63
    pub looks : IsSeen v ((head_word at, head) ∷ [])
    pub hands_are : w ≡ looked v (head_word at) head
    -- the looks don't show the goal finished
    pub unfinished : (goal : ℕ) → goal ≢ 0 → Looked v.looks (cell_word at) goal
        → ShowsFinished meaning capacity v.looks goal → ⊥
    pub lone : LoneFindsReady meaning capacity v at

  abbrev pub Reads : Option Answer → Hands R → Type 0
  Reads (Some answer) w = ReadsAnswer answer w
  Reads None w = FindsOpen w

-- one look at the full word
pub record ReadsFull {R : Type 0} (meaning : Meaning) (capacity : ℕ) (v : Hands R) (full : Bool) (w : Hands R) : Type 0
  where
    pub value : ℕ
    pub hands_are : w ≡ looked v full_word value
    pub set : IsTrue full → value ≢ 0
    pub unset : full ≡ false → value ≡ 0
    pub stays : ShowsFull v.looks → IsTrue full
    pub alone : AgreesAlone v ((full_word, value) ∷ [])
    pub left_out : LeavesOut meaning capacity w.looks
