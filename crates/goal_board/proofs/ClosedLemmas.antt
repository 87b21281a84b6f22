-- A word that was read of a closed board.
use Rattle.std.proofs.Common.{◌≡◌, ℕ, zero, suc, List, [], ◌∷◌, get_or, sym}
use mathlib.Core.Option.{some, some-injective, some-ne-none}
use lib.ListN.{get_elem?}

-- a word that was read is the board's
pub word_read : (l : List ℕ) (i x : ℕ) → get_elem? l i ≡ some x → get_or l i 0 ≡ x
word_read [] i x e = absurd (some-ne-none x (sym e))
word_read (y ∷ ys) zero x e = some-injective y x e
word_read (y ∷ ys) (suc i) x e = word_read ys i x e
