-- What a sink keeps of a piece that it didn't take whole.
use Rattle.std.specs.Prelude.{ℕ, ◌≤◌, List, length, take, Option}
use Rattle.std.specs.Io.KnownBytes.{Appends}

-- what was taken grew by the first count bytes of the piece, where it is told
pub record TakesPrefix (old new : Option (List ℕ)) (piece : List ℕ) : Type 0 where
  pub count : ℕ
  pub within : count ≤ length piece
  pub taken : Appends old new (take count piece)
