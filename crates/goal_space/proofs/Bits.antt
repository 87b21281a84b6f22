-- The bits of sets.
use Rattle.std.proofs.Common.{◌≡◌, ℕ, false, ◌↔◌, inl, inr, arith, IsTrue}
use Rattle.std.proofs.lemmas.Bool.{cases_eq, false≢true}
use Rattle.std.proofs.lemmas.Nat.Bits.{bit_at-lt}
use Rattle.query_core.specs.Sets.{bit, Has}

-- a table that isn't in the set has the bit 0
pub no_bit : (set t : ℕ) → IsTrue false ↔ Has set t → 0 ≡ bit set t
unfolding bit
no_bit set t has = elim (cases_eq (bit set t) 1) [
  | inl there ↦ absurd (false≢true (has.1 there))
  | inr none ↦ omega (arith, none, bit_at-lt set t)
]
