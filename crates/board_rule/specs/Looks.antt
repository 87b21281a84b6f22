-- What the looks of a seat show. A look is a word's number and what was found there; the last one stands first.
use Rattle.std.specs.Prelude.{◌≡◌, ◌≢◌, ◌⊎◌, ℕ, ◌^◌, ◌<◌, ◌≤◌, List, [], ◌∷◌}
use Rattle.word_table.specs.Probing.{home_of, steps_to, AllPassed}
use Rattle.board_rule.specs.Meaning.{Meaning}
use Rattle.board_rule.specs.Words.{full_word, cell_word, head_word}

-- one of the looks found that number in that word
abbrev pub Looked : List (ℕ × ℕ) → ℕ → ℕ → Type 0
Looked [] word found = ⊥
Looked (look ∷ looks) word found = ((look.0 ≡ word) × (look.1 ≡ found)) ⊎ Looked looks word found

-- the last of the looks at the word found that
abbrev pub LastFound : List (ℕ × ℕ) → ℕ → ℕ → Type 0
LastFound [] word found = ⊥
LastFound (look ∷ looks) word found = ((look.0 ≡ word) × (look.1 ≡ found))
    ⊎ ((look.0 ≢ word) × LastFound looks word found)

-- one of the looks found another word than this one in the cell
abbrev pub SawOther : List (ℕ × ℕ) → ℕ → ℕ → Type 0
SawOther looks word place = (found : ℕ) × Looked looks (cell_word place) found × (found ≢ 0) × (found ≢ word)

-- the looks found other words in that many cells from the word's home on
abbrev pub SawOthers : ℕ → List (ℕ × ℕ) → ℕ → ℕ → Type 0
SawOthers capacity looks word steps = AllPassed capacity (home_of word capacity) steps (SawOther looks word)

-- the looks show the full word set
abbrev pub ShowsFull : List (ℕ × ℕ) → Type 0
ShowsFull looks = (found : ℕ) × Looked looks full_word found × (found ≢ 0)

-- one of the looks found the head at the place closed
abbrev pub ShowsClosed : List (ℕ × ℕ) → ℕ → Type 0
ShowsClosed looks place = (found : ℕ) × Looked looks (head_word place) found × (2 ^ 63 ≤ found)

module _ (meaning : Meaning) (capacity : ℕ) (looks : List (ℕ × ℕ)) where
  -- the looks show a goal finished: one found it in a cell and one found its head closed, or they show a goal finished
  -- whose child it is
  pub data ShowsFinished : ℕ → Type 0 where
    seen_closed : (goal place : ℕ) → place < capacity → goal ≢ 0 → Looked looks (cell_word place) goal
        → ShowsClosed looks place → ShowsFinished goal
    child_of : (goal child : ℕ) → ShowsFinished goal → meaning.child goal child → ShowsFinished child

  -- the looks show a word in a cell: one found it there, or they show a goal finished that asks for it, or they show it
  -- finished
  pub data ShowsEntry : ℕ → Type 0 where
    seen_there : (word place : ℕ) → place < capacity → word ≢ 0 → Looked looks (cell_word place) word → ShowsEntry word
    asked_by : (goal word : ℕ) → ShowsFinished goal → meaning.asked goal word → ShowsEntry word
    finished : (goal : ℕ) → ShowsFinished goal → ShowsEntry goal

  -- the looks show a goal's promise: its children are finished, and what it asks for is in cells
  pub record ShowsPromise (goal : ℕ) : Type 0 where
    pub children : (child : ℕ) → meaning.child goal child → ShowsFinished child
    pub asked : (word : ℕ) → meaning.asked goal word → ShowsEntry word

-- no word that these looks show in a cell was passed by, on the way from its home to the empty cell
abbrev pub ForgetsNone : Meaning → ℕ → List (ℕ × ℕ) → ℕ → Type 0
ForgetsNone meaning capacity looks empty = (word place : ℕ) → place < capacity → cell_word place ≡ empty
    → ShowsEntry meaning capacity looks word
    → SawOthers capacity looks word (steps_to capacity (home_of word capacity) place) → ⊥

-- absence is remembered: at each look that found an empty cell, no word was passed by that earlier looks show in a cell
abbrev pub RemembersAbsence : Meaning → ℕ → List (ℕ × ℕ) → Type 0
RemembersAbsence meaning capacity [] = Unit {0}
RemembersAbsence meaning capacity (look ∷ looks) = (look.1 ≡ 0 → ForgetsNone meaning capacity looks look.0)
    × RemembersAbsence meaning capacity looks
