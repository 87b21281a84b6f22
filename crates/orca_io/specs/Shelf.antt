-- What one reading of a name on a shelf gives.
use Rattle.std.specs.Prelude.{◌≡◌, ℕ, ◌+◌, ◌<◌, ◌≤◌, List, ◌++◌, length, Option, None, Some, ⊤}
use Rattle.std.specs.Io.{StartsWith}
use Rattle.orca_base.specs.Causes.{Rose}
use Rattle.orca_io.specs.declared.shelf.ShelfError.{ShelfError}
use Rattle.orca_io.specs.declared.shelf.ShelfError.TheVariants.{Failed, TooLong, Memory}

-- the bytes held are at most limit many, and new is old with them behind it
pub record AddsWhole (held : List ℕ) (limit : ℕ) (old new : List ℕ) : Type 0 where
  pub fits : length held ≤ limit
  pub added : new ≡ old ++ held

-- new is old with at most limit bytes behind it
pub record AddsAtMost (limit : ℕ) (old new : List ℕ) : Type 0 where
  pub front : StartsWith new old
  pub bounded : length new ≤ length old + limit

-- new is old with all the bytes behind it that the name holds, at most limit, where they are told
abbrev pub ReadsAll : Option (List ℕ) → ℕ → List ℕ → List ℕ → Type 0
ReadsAll None limit old new = AddsAtMost limit old new
ReadsAll (Some held) limit old new = AddsWhole held limit old new

-- more than limit bytes are held, where they are told
abbrev pub Exceeds : Option (List ℕ) → ℕ → Type 0
Exceeds None limit = ⊤
Exceeds (Some held) limit = limit < length held

-- one byte over the limit was seen, and more than limit bytes are held
pub record IsTooLong (seen : ℕ) (held : Option (List ℕ)) (limit : ℕ) : Type 0 where
  pub one_over : seen ≡ limit + 1
  pub exceeds : Exceeds held limit

-- more is held than the limit, and the name's count of faults stayed as it was
pub record OnlyTooLong (seen : ℕ) (held : Option (List ℕ)) (limit before now : ℕ) : Type 0 where
  pub too_long : IsTooLong seen held limit
  pub no_fault : now ≡ before

-- why a reading was refused: the name's count of faults rose, or there was no fault and more is held than the limit, or
-- memory is short
abbrev pub HasCause : ShelfError → Option (List ℕ) → ℕ → ℕ → ℕ → Type 0
HasCause Failed held limit before now = Rose before now
HasCause (TooLong seen) held limit before now = OnlyTooLong seen held limit before now
HasCause Memory held limit before now = ⊤
