-- A text that grows.
use Rattle.std.specs.Prelude.{ℕ, ◌≡◌, List, ◌++◌}

-- the text after is the one before, and behind it the piece
abbrev pub AddsText : List ℕ → List ℕ → List ℕ → Type 0
AddsText before piece after = after ≡ before ++ piece
