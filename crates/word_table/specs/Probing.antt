-- Linear probing: from its home on and going round, a word stands at the first place that was free.
-- The cells are a function from the places below their number, the capacity, to words; 0 is an empty one.
use Rattle.std.specs.Prelude.{◌≡◌, ◌≢◌, ℕ, ◌+◌, ◌-◌, ◌*◌, ◌/◌, ◌%◌, ◌^◌, ◌<◌, ◌==◌, nat_le, if◌then◌else◌}

-- the place at which a word is looked for first
unfoldable pub home_of : ℕ → ℕ → ℕ
home_of word capacity = word * 11400714819323198485 % 2 ^ 64 / 2 ^ 33 % capacity

-- the next place, the first one after the last
abbrev pub next_place : ℕ → ℕ → ℕ
next_place place capacity = if place + 1 == capacity then 0 else place + 1

-- how many steps from place to next place lead from one to another
abbrev pub steps_to : ℕ → ℕ → ℕ → ℕ
steps_to capacity start place = if nat_le start place then place - start else (capacity - start) + place

-- the fact holds of each place to which fewer than this many steps lead
abbrev pub AllPassed : (capacity start steps : ℕ) → (ℕ → Type 0) → Type 0
AllPassed capacity start steps Fact =
    (place : ℕ) → place < capacity → steps_to capacity start place < steps → Fact place

-- the cell is taken by another word
abbrev pub HasOther : (cell : ℕ → ℕ) → (word place : ℕ) → Type 0
HasOther cell word place = (cell place ≢ 0) × (cell place ≢ word)

-- that many steps from the word's home pass over cells of other words alone
abbrev pub PassesOthers : (capacity : ℕ) → (cell : ℕ → ℕ) → (word steps : ℕ) → Type 0
PassesOthers capacity cell word steps = AllPassed capacity (home_of word capacity) steps (HasOther cell word)

-- no cell holds the word
abbrev pub Lacks : (capacity : ℕ) → (cell : ℕ → ℕ) → (word : ℕ) → Type 0
Lacks capacity cell word = (place : ℕ) → place < capacity → cell place ≢ word

-- no cell from the word's home up to the place is empty
abbrev pub HasNoGap : (capacity : ℕ) → (cell : ℕ → ℕ) → (word place : ℕ) → Type 0
HasNoGap capacity cell word place =
    let home = home_of word capacity in
    AllPassed capacity home (steps_to capacity home place) (λ passed. cell passed ≢ 0)

-- no word stands twice, and no cell from a word's home up to its place is empty
pub record IsWordSet (capacity : ℕ) (cell : ℕ → ℕ) : Type 0 where
  pub once : (p q : ℕ)
      → p < capacity → q < capacity → cell p ≢ 0 → cell p ≡ cell q → p ≡ q
  pub no_gap : (place : ℕ)
      → place < capacity → cell place ≢ 0 → HasNoGap capacity cell (cell place) place

-- the word stands at the place, and every other cell is as it was
pub record PutsAt (old new : ℕ → ℕ) (place word : ℕ) : Type 0 where
  pub here : new place ≡ word
  pub others : (p : ℕ) → p ≢ place → new p ≡ old p
