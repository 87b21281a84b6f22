-- What reading a file gives.
use Rattle.std.specs.Prelude.{◌≡◌, ℕ, ◌≤◌, List, length, Option, None, Some, IfSome, Vec}
use Rattle.std.specs.declared.alloc.Global.{Global}
use Rattle.orca_io.specs.Shelf.{Exceeds}

-- the bytes are at most limit, and those that are held, where they are told
pub record AreHeld (held : Option (List ℕ)) (limit : ℕ) (bytes : List ℕ) : Type 0 where
  pub bounded : length bytes ≤ limit
  pub told : IfSome held (λ content. bytes ≡ content)

-- what is held was read, or it is longer than the limit
abbrev pub IsRead : Option (List ℕ) → ℕ → Option (Vec ℕ Global) → Type 0
IsRead held limit (Some bytes) = AreHeld held limit bytes.items
IsRead held limit None = Exceeds held limit
