-- The draws of a number.
use Rattle.std.specs.Prelude.{ℕ, zero, suc, ◌+◌, ◌*◌, ◌%◌}

-- the draw after x
abbrev pub next : ℕ → ℕ
next x = (75 * x + 74) % 65537

-- where the draws of a number stand after so many of them; each is what is drawn
unfoldable pub draw : ℕ → ℕ → ℕ
draw number zero = number % 65537
draw number (suc count) = next (draw number count)
