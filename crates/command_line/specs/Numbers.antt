-- Numbers as words write them.
use Rattle.std.specs.Prelude.{ℕ, Bool, not, List, [], ◌∷◌, ◌==◌, ◌≡◌, ◌≤◌, ◌&&◌, ◌||◌, Option, None, Some, bytes_eq}
use Rattle.std.specs.Prelude.{decimal, if◌then◌else◌, length, nat_le, slice_index}
use Rattle.std.specs.Str.Parse.{digits_value}

-- the number lies between two others, or is one of them
pub record IsWithin (low high number : ℕ) : Type 0 where
  pub from : low ≤ number
  pub to : number ≤ high

-- the words are one, which writes a number within the bounds: in decimal digits, and with no zero before others
pub record IsNumber (low high number : ℕ) (words : List (List ℕ)) : Type 0 where
  pub within : IsWithin low high number
  pub word : words ≡ decimal number ∷ []

-- ---- how numbers are read

-- the word is what is written for the number, which lies within the bounds
abbrev pub is_written : ℕ → ℕ → ℕ → List ℕ → Bool
is_written low high number word = bytes_eq (decimal number) word && nat_le low number && nat_le number high

-- the number within the bounds that the word writes
abbrev pub number_within : ℕ → ℕ → List ℕ → Option ℕ
number_within low high word = if is_written low high (digits_value 10 word) word then Some (digits_value 10 word) else
    None

-- no `+` and no zero stands before a number
abbrev pub is_plain : List ℕ → Bool
is_plain word = not (slice_index word 0 == 43) && (length word == 1 || not (slice_index word 0 == 48))
