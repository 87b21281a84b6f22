-- How a count is printed.
use Rattle.std.specs.Prelude.{ℕ, List, ◌++◌, decimal}

-- a label, and behind it the number
abbrev pub counted : List ℕ → ℕ → List ℕ
counted label number = label ++ decimal number
