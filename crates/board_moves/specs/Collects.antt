-- The double collection: a first pass over the words that a group may have as members sees that the goal of each one
-- found is finished, and a second pass counts them again.
use Rattle.std.specs.Prelude.{◌≡◌, ◌≢◌, ◌⊎◌, ℕ, ◌^◌, ◌<◌, List, [], ◌∷◌, ◌++◌, length}
use Rattle.word_table.specs.Probing.{home_of, steps_to}
use Rattle.board_rule.specs.Meaning.{Meaning}
use Rattle.board_rule.specs.Words.{cell_word, head_word}
use Rattle.board_rule.specs.Looks.{Looked, SawOthers, ShowsFinished, ShowsEntry, ShowsPromise}
use Rattle.board_rule.specs.Seats.{Among, Each}
use Rattle.board_rule.specs.declared.hands.Hands.{Hands}
use Rattle.goal_board.specs.Calls.{seen, IsSeen, SawAllOthers}
use Rattle.board_moves.specs.Moves.{OnlyLooks}
use Rattle.board_moves.specs.declared.settled.Settled.{Settled}
use Rattle.board_moves.specs.declared.settled.Settled.TheVariants.{Yes, Open, Grew}

module _ (capacity : ℕ) (looks : List (ℕ × ℕ)) (word : ℕ) where
  -- one of the looks found the word in a cell
  abbrev pub FoundIn : Type 0
  FoundIn = (place : ℕ) × (place < capacity) × Looked looks (cell_word place) word

  -- the looks from the word's home on found other words, and then an empty cell
  abbrev pub EndsEmpty : Type 0
  EndsEmpty = (gap : ℕ) × (gap < capacity) × Looked looks (cell_word gap) 0
      × SawOthers capacity looks word (steps_to capacity (home_of word capacity) gap)

  -- the word was in no cell at a look, or all cells held other words
  abbrev pub FoundNowhere : Type 0
  FoundNowhere = EndsEmpty ⊎ SawAllOthers capacity looks word

  -- a look found the goal in a cell, and one found its head open
  abbrev pub FoundOpen : Type 0
  FoundOpen = (place : ℕ) × (place < capacity) × Looked looks (cell_word place) word
      × ((head : ℕ) × Looked looks (head_word place) head × (head < 2 ^ 63))

-- each is greater than all that come after it
abbrev pub Falls : List ℕ → Type 0
Falls [] = Unit {0}
Falls (word ∷ words) = Each (λ other. other < word) words × Falls words

-- the looks show so many of the words in cells, and each other one in none
pub record Counts (Has : ℕ → Type 0) (capacity : ℕ) (looks : List (ℕ × ℕ)) (number : ℕ) : Type 0 where
  pub found : List ℕ
  pub falls : Falls found
  pub number_is : number ≡ length found
  pub each : (word : ℕ) → Among found word → Has word × FoundIn capacity looks word
  pub rest : (word : ℕ) → Has word → Among found word ⊎ FoundNowhere capacity looks word

-- the looks fall into an earlier and a later part, and the later ones show more of the words in cells
pub record Grows (Has : ℕ → Type 0) (capacity : ℕ) (looks : List (ℕ × ℕ)) (first second : ℕ) : Type 0 where
  pub earlier : List (ℕ × ℕ)
  pub later : List (ℕ × ℕ)
  pub split : looks ≡ later ++ earlier
  pub was : Counts Has capacity earlier first
  pub is : Counts Has capacity later second
  pub more : first < second

module _ (meaning : Meaning) (origin : ℕ) (Has : ℕ → Type 0) (goal_of : ℕ → ℕ) where
  -- the origin, and each of the words that a child of the goal of one that is reached asks for
  pub data IsReached : ℕ → Type 0 where
    from_origin : IsReached origin
    from_child : (word child other : ℕ) → IsReached word → meaning.child (goal_of word) child
        → meaning.asked child other → Has other → IsReached other

  -- the goal explores a group: it asks for the members, which are among the words and reached, and its children are
  -- their goals
  pub record IsExploration (goal : ℕ) : Type 0 where
    pub some_word : (word : ℕ) → Has word → word ≢ 0
    pub some_goal : (word : ℕ) → Has word → goal_of word ≢ 0
    pub origin_has : Has origin
    pub origin_asked : meaning.asked goal origin
    pub members : (word : ℕ) → meaning.asked goal word → Has word × IsReached word
    pub children : (child : ℕ) → meaning.child goal child → (word : ℕ) × meaning.asked goal word
        × (child ≡ goal_of word)
    pub explores : (word : ℕ) → Has word → meaning.entry word → meaning.child goal (goal_of word)

-- the looks show that the group grew; the first pass found all words that were shown in cells before
pub record FindsMore {R : Type 0} (meaning : Meaning) (capacity : ℕ) (Has : ℕ → Type 0) (v : Hands R) (first second : ℕ)
    (w : Hands R) : Type 0 where
  pub more : List (ℕ × ℕ)
  pub looks : IsSeen v more
  pub hands_are : w ≡ seen more v
  pub grows : Grows Has capacity more first second
  pub knew : (word : ℕ) → Has word → ShowsEntry meaning capacity v.looks word → Among grows.was.found word

module _ {R : Type 0} (meaning : Meaning) (capacity : ℕ) (Has : ℕ → Type 0) (goal_of : ℕ → ℕ) (v : Hands R) where
  -- the word was found, and its goal was found in no cell or with its head open; it wasn't shown finished before
  pub record FindsOpenGoal (goal : ℕ) (w : Hands R) : Type 0 where
    pub word : ℕ
    pub has : Has word
    pub is : goal ≡ goal_of word
    pub more : List (ℕ × ℕ)
    pub looks : IsSeen v more
    pub hands_are : w ≡ seen more v
    pub there : FoundIn capacity more word
    pub not_finished : FoundNowhere capacity more goal ⊎ FoundOpen capacity more goal
    pub unknown : ShowsFinished meaning capacity v.looks goal → ⊥

  -- what the double collection tells of the goal that explores the group
  abbrev pub Settles : (explored : ℕ) → Settled → Hands R → Type 0
  Settles explored Yes w = OnlyLooks v w × ShowsPromise meaning capacity w.looks explored
  Settles explored (Open goal) w = FindsOpenGoal goal w
  Settles explored (Grew first second) w = FindsMore meaning capacity Has v first second w

-- what the turn of an exploration may put in: a child of its goal, or the origin of the group
abbrev pub ExplorationAdds : Meaning → (origin goal : ℕ) → ℕ → Type 0
ExplorationAdds meaning origin goal word = meaning.child goal word ⊎ (word ≡ origin)
