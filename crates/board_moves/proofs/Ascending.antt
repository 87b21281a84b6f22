-- Words that are gone over from the least to the greatest.
use Rattle.std.proofs.Common.{◌≡◌, ◌⊎◌, ℕ, ◌-◌, ◌^◌, ◌<◌, ◌≤◌, Option, None, Some, sym, subst, inl, inr, ⊎_elim, arith}
use Rattle.std.proofs.lemmas.Bool.{cases_lt}
use Rattle.board_moves.specs.Words.{IsAbove, IsNextWord, IsNextOf}

-- how many numbers of 64 bits are above the one before
abbrev pub left_above : Option ℕ → ℕ
left_above None = 2 ^ 64
left_above (Some before) = 2 ^ 64 - 1 - before

-- fewer are above the next one
pub fewer_above : (before : Option ℕ) (word : ℕ) → IsAbove before word → word < 2 ^ 64
    → left_above (Some word) < left_above before
fewer_above None word above fits = omega arith
fewer_above (Some b) word above fits = omega arith

pub above_on : (before : Option ℕ) (word other : ℕ) → IsAbove before word → word < other → IsAbove before other
above_on None word other above less = tt
above_on (Some b) word other above less = omega arith

-- it is the one before, or below it
abbrev pub IsUpTo : Option ℕ → ℕ → Type 0
IsUpTo None word = ⊥
IsUpTo (Some before) word = word ≤ before

pub up_to_or_above : (before : Option ℕ) (word : ℕ) → IsUpTo before word ⊎ IsAbove before word
up_to_or_above None word = inr tt
up_to_or_above (Some b) word = ⊎_elim (λ (less : b < word). inr less) (λ (most : word ≤ b). inl most) (cases_lt b word)

module _ (Has : ℕ → Type 0) (before : Option ℕ) (word : ℕ) (next : IsNextWord Has before word) where
  -- what is up to the next one is it, or up to the one before
  pub up_to_next : (other : ℕ) → Has other → other ≤ word → (other ≡ word) ⊎ IsUpTo before other
  up_to_next other has most = ⊎_elim (λ (old : IsUpTo before other). inr old)
      (λ (above : IsAbove before other). let least = next.least other has above in inl (omega arith))
      (up_to_or_above before other)

-- the search for an entry has come to a word: no entry was passed
pub record Passes (Wanted : ℕ → Type 0) (start before : Option ℕ) : Type 0 where
  pub none_passed : (word : ℕ) → Wanted word → IsAbove start word → IsAbove before word
  pub after : (word : ℕ) → IsAbove before word → IsAbove start word

module _ (Has Wanted : ℕ → Type 0) (wanted_has : (word : ℕ) → Wanted word → Has word) (start before : Option ℕ)
    (passes : Passes Wanted start before) where
  -- the next word isn't wanted
  pub passes_next : (word : ℕ) → IsNextWord Has before word → (Wanted word → ⊥) → Passes Wanted start (Some word)
  passes_next word next unwanted = record {
    none_passed = λ other wanted above. ⊎_elim (λ (less : word < other). less)
        (λ (most : other ≤ word). let least = next.least other (wanted_has other wanted)
        (passes.none_passed other wanted above) in let same : word ≡ other = omega arith in
        absurd (unwanted (subst Wanted (sym same) wanted)))
        (cases_lt word other);
    after = λ other above. passes.after other (above_on before word other next.above above);
  }

  -- the next word is wanted
  pub passes_found : (word : ℕ) → IsNextWord Has before word → Wanted word → IsNextOf Wanted start (Some word)
  passes_found word next wanted = record {
    has = wanted;
    above = passes.after word next.above;
    least = λ other is above. next.least other (wanted_has other is) (passes.none_passed other is above);
  }

-- at the start none was passed
pub passes_none : (Wanted : ℕ → Type 0) (start : Option ℕ) → Passes Wanted start start
passes_none Wanted start = record { none_passed = λ word wanted above. above; after = λ word above. above }
