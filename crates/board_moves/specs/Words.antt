-- Words that are gone over from the least to the greatest.
use Rattle.std.specs.Prelude.{ℕ, ◌<◌, ◌≤◌, Option, None, Some}

-- the word is above the one before, if there is one
abbrev pub IsAbove : Option ℕ → ℕ → Type 0
IsAbove None word = Unit {0}
IsAbove (Some before) word = before < word

module _ (Has : ℕ → Type 0) (before : Option ℕ) where
  -- it is one of them, above the one before, and the least such
  pub record IsNextWord (word : ℕ) : Type 0 where
    pub has : Has word
    pub above : IsAbove before word
    pub least : (other : ℕ) → Has other → IsAbove before other → word ≤ other

  -- the next one, or none where none is above the one before
  abbrev pub IsNextOf : Option ℕ → Type 0
  IsNextOf (Some word) = IsNextWord word
  IsNextOf None = (word : ℕ) → Has word → IsAbove before word → ⊥
