-- Lists of queries: their lines, and why a list is refused.
use Rattle.std.specs.Prelude.{◌≡◌, ℕ, ◌*◌, Bool, List, [], ◌∷◌, ◌==◌, ◌||◌, Option, None, Some, codes, if◌then◌else◌}
use Rattle.std.specs.Prelude.{length, nat_lt}
use Rattle.orca_cli.specs.Texts.{batch_refused}
use Rattle.orca_cli.specs.declared.status.Status.{Status}
use Rattle.orca_cli.specs.declared.status.Status.TheVariants.{BatchRefused}

-- the lines with a byte in front of the first one
abbrev pub with_byte : ℕ → List (List ℕ) → List (List ℕ)
with_byte byte [] = (byte ∷ []) ∷ []
with_byte byte (line ∷ more) = (byte ∷ line) ∷ more

-- the lines of a text: a line feed ends each, and is no part of it; only the last one may lack it
abbrev pub lines_of : List ℕ → List (List ℕ)
lines_of [] = []
lines_of (byte ∷ more) = if byte == 10 then [] ∷ lines_of more else with_byte byte (lines_of more)

-- there are more than 1000 lines, or their searches may have more than 67108864 members and goals together
abbrev pub are_too_many : (lines capacity : ℕ) → Bool
are_too_many lines capacity = nat_lt 1000 lines || nat_lt 67108864 (lines * capacity)

-- why the list is refused for this capacity, if it is
abbrev pub list_cause : (capacity : ℕ) → List ℕ → Option (List ℕ)
list_cause capacity list =
    if nat_lt 1048576 (length list) then Some (codes "too long")
    else if are_too_many (length (lines_of list)) capacity then Some (codes "too many queries")
    else None

-- the list is refused, and the text says why
pub record IsListRefused (capacity : ℕ) (list : List ℕ) (status : Status) (text : List ℕ) : Type 0 where
  pub refused : status ≡ BatchRefused
  pub cause : List ℕ
  pub caused : list_cause capacity list ≡ Some cause
  pub line : text ≡ batch_refused cause
