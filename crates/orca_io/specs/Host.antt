-- Why a file of the host wasn't read whole.
use Rattle.std.specs.Prelude.{◌≡◌, ℕ, ◌+◌, ⊤}
use Rattle.orca_io.specs.declared.shelf.ShelfError.{ShelfError}
use Rattle.orca_io.specs.declared.shelf.ShelfError.TheVariants.{Failed, TooLong, Memory}

-- one byte over the limit was seen, or something stopped the reading
abbrev pub IsOverOrStopped : ℕ → ShelfError → Type 0
IsOverOrStopped limit Failed = ⊤
IsOverOrStopped limit (TooLong seen) = seen ≡ limit + 1
IsOverOrStopped limit Memory = ⊤
