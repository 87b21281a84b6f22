-- Laws of sets of tables.
use Rattle.std.proofs.Common.{◌≡◌, ℕ, ◌-◌, ◌^◌, inl, inr, arith, Bool, true, false, not, IsTrue, ◌↔◌, refl}
use Rattle.std.specs.Prelude.{bit_or}
use Rattle.std.proofs.lemmas.Bool.{cases_eq, false≢true}
use Rattle.query_core.specs.Sets.{bit, Has}
use Rattle.query_core.proofs.Bits.{bit-below, bit-one, bit-one_other, bit-or, one-grows, same_tables}

-- what a set has but one of its tables is the set less that table's number
pub without_one : (set k rest : ℕ) → Has set k → ((t : ℕ) → bit rest t ≡ bit set t - bit (2 ^ k) t) → rest ≡ set - 2 ^ k
without_one set k rest has difference =
    let none : bit rest k ≡ 0 = omega (arith, difference k, bit-one k, bit-below set k) in
    let whole : bit_or rest (2 ^ k) ≡ set = same_tables (bit_or rest (2 ^ k)) set (λ t. elim (cases_eq t k) [
      | inl same ↦ rw same (omega (arith, bit-or rest (2 ^ k) k, difference k, bit-one k, bit-below set k, has))
      | inr other ↦ omega (arith, bit-or rest (2 ^ k) t, difference t, bit-one_other k t other, bit-below set t)
    ]) in
    omega (arith, one-grows rest k none, whole)

-- a rule whose bit is not set is on
pub not_set : (set t : ℕ) (b : Bool) → IsTrue b ↔ Has set t → IsTrue (not b) ↔ (bit set t ≡ 0)
not_set set t true same = (λ never. absurd (false≢true never), λ none. absurd (omega (arith, none, same.0 refl)))
not_set set t false same = (
  λ on. elim (cases_eq (bit set t) 1) [
    | inl has ↦ absurd (false≢true (same.1 has))
    | inr other ↦ omega (arith, other, bit-below set t)
  ],
  λ none. refl,
)
