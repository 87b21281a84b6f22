-- Laws of sets of numbers below 64, each the bit of its number in a mask.
use Rattle.std.proofs.Common.{◌≡◌, ℕ, ◌+◌, ◌-◌, ◌*◌, ◌/◌, ◌%◌, ◌^◌, ◌<◌, ◌≤◌, ◌⊎◌, ◌↔◌, inl, inr, arith, ap, sym, subst}
use Rattle.std.proofs.Common.{◌∙◌, IsTrue, Bool}
use Rattle.std.specs.Prelude.{bit_and, bit_or, bit_xor, nat_eq}
use Rattle.std.specs.Int.{w64, bit_at, trailing_zeros}
use Rattle.std.proofs.lemmas.Bool.{cases_lt, cases_eq, eqb-true, eq-eqb}
use Rattle.std.proofs.Math.Nat.{div-le_self}
use Rattle.std.proofs.lemmas.Nat.{shr-shr, one_shl}
use Rattle.std.proofs.lemmas.Nat.Bits.{bit_at_set_same, bit_at_set_other, bit_at-zero, bit_at-trailing_zeros, shr_and_one}
use Rattle.query_core.specs.Sets.{bit, Has}
use Rattle.query_core.proofs.Bits.{bit-or, bit-and, bit-difference, bit-below, bit-beyond, bit-first, bit-after}

-- ---- masks of two masks

-- a bit is set or not
set_or_not : (mask k : ℕ) → Has mask k ⊎ (bit mask k ≡ 0)
set_or_not mask k = elim (cases_eq (bit mask k) 1) [
  | inl set ↦ inl set
  | inr other ↦
      inr (omega (arith, bit-below mask k, other))
]

-- what is in both masks is in their meet
pub in_both : (a b k : ℕ) → Has (bit_and a b) k ↔ (Has a k × Has b k)
in_both a b k = (
  λ has. (
    omega (arith, bit-and a b k, has, bit-below a k, bit-below b k),
    omega (arith, bit-and a b k, has, bit-below a k, bit-below b k),
  ),
  λ both. omega (arith, bit-and a b k, both.0, both.1),
)

-- what is in one of them is in their join
pub in_either : (a b k : ℕ) → Has (bit_or a b) k ↔ (Has a k ⊎ Has b k)
in_either a b k = (
  λ has. elim (set_or_not a k) [ inl first ↦ inl first | inr none ↦ inr (omega (arith, bit-or a b k, has, none)) ],
  λ one. elim one [
    | inl first ↦ omega (arith, bit-or a b k, first, bit-below b k)
    | inr second ↦ omega (arith, bit-or a b k, second, bit-below a k)
  ],
)

-- what is in the first alone is in their difference
pub in_first_alone : (a b k : ℕ) → Has (bit_xor a (bit_and a b)) k ↔ (Has a k × (Has b k → ⊥))
in_first_alone a b k = (
  λ has. (
    omega (arith, bit-difference a b k, has, bit-below a k),
    λ other.
        omega (arith, bit-difference a b k, has, other, bit-below a k),
  ),
  λ alone. elim (set_or_not b k) [
    | inl second ↦ absurd (alone.1 second)
    | inr none ↦ omega (arith, bit-difference a b k, alone.0, none)
  ],
)

-- ---- masks of numbers

-- an empty mask has none
pub none_in : (k : ℕ) → Has 0 k → ⊥
unfolding bit
none_in k has = omega (arith, bit_at-zero k, has)

-- a mask of 64 bits has none from 64 on
pub mask_below : (mask k : ℕ) → mask < 2 ^ 64 → Has mask k → k < 64
mask_below mask k fits has = elim (cases_lt k 64) [
  | inl less ↦ less
  | inr more ↦
      absurd (omega (arith, bit-beyond mask 64 k fits more, has))
]

-- a number is in the mask where the test of its bit says so
pub tested : (mask k : ℕ) → IsTrue (nat_eq (bit_and (mask / 2 ^ k) 1) 1) ↔ Has mask k
unfolding bit
tested mask k = (
  λ is. sym (shr_and_one mask k) ∙ eqb-true (bit_and (mask / 2 ^ k) 1) 1 is,
  λ has. eq-eqb (bit_and (mask / 2 ^ k) 1) 1 (shr_and_one mask k ∙ has),
)

-- the ones below a bit
pub ones_have : (bound k : ℕ) → bound < 64 → k < bound → Has (1 * 2 ^ bound % 2 ^ 64 - 1) k
ones_have bound k within below = ap (λ (x : ℕ). bit (x - 1) k) (one_shl bound 64 within) ∙ bit-first bound k below

-- and none above
pub ones_end : (bound k : ℕ) → bound < 64 → Has (1 * 2 ^ bound % 2 ^ 64 - 1) k → k < bound
ones_end bound k within has = elim (cases_lt k bound) [
  | inl less ↦ less
  | inr more ↦
      let ones : bit (1 * 2 ^ bound % 2 ^ 64 - 1) k ≡ bit (2 ^ bound - 1) k =
      ap (λ (x : ℕ). bit (x - 1) k) (one_shl bound 64 within) in
      absurd (omega (arith, ones, bit-after bound k more, has))
]

-- a mask with one more bit
set_others : (mask k i : ℕ) → k < 64 → (i ≡ k → ⊥) → bit (bit_or mask (1 * 2 ^ k % 2 ^ 64)) i ≡ bit mask i
unfolding bit
set_others mask k i within differ = bit_at_set_other w64 mask k within i differ

set_this : (mask k : ℕ) → k < 64 → Has (bit_or mask (1 * 2 ^ k % 2 ^ 64)) k
unfolding bit
set_this mask k within = bit_at_set_same w64 mask k within

pub one_more : (mask k i : ℕ) (here : Bool) → k < 64 → IsTrue here → Has (bit_or mask (1 * 2 ^ k % 2 ^ 64)) i
    ↔ (Has mask i ⊎ ((i ≡ k) × IsTrue here))
one_more mask k i here within is = (
  λ has. elim (cases_eq i k) [
    | inl same ↦ inr (same, is)
    | inr differ ↦
        inl (sym (set_others mask k i within differ) ∙ has)
  ],
  λ either. elim either [
    | inl before ↦ elim (cases_eq i k) [
      | inl same ↦ subst (Has (bit_or mask (1 * 2 ^ k % 2 ^ 64))) (sym same) (set_this mask k within)
      | inr differ ↦ set_others mask k i within differ ∙ before
    ]
    | inr this ↦ subst (Has (bit_or mask (1 * 2 ^ k % 2 ^ 64))) (sym this.0) (set_this mask k within)
  ],
)

-- ---- the first from a place on

-- a place from the one on to which a mask is shifted is in the rest
shifted : (mask from number : ℕ) → from ≤ number → bit (mask / 2 ^ from) (number - from) ≡ bit mask number
unfolding bit
shifted mask from number after = ap (λ x. x % 2) (shr-shr mask from (number - from))
    ∙ ap (bit_at mask) (omega (arith, after))

-- where nothing is left there, the mask has no number from there on
pub none_left : (mask from number : ℕ) → mask / 2 ^ from ≡ 0 → from ≤ number → Has mask number → ⊥
unfolding bit
none_left mask from number none after has =
    let zero : bit_at mask number ≡ 0 = sym (shifted mask from number after)
    ∙ (ap (λ x. bit_at x (number - from)) none ∙ bit_at-zero (number - from)) in
    absurd (omega (arith, zero, has))

-- the place is one of the mask's below 64, and the first of them from the other on
pub record IsFirstLeft (mask from place : ℕ) : Type 0 where
  pub small : place < 64
  pub here : Has mask place
  pub first : (number : ℕ) → from ≤ number → number < place → Has mask number → ⊥

-- the first of the rest is such a place
pub first_left : (mask from : ℕ) → mask < 2 ^ 64 → 0 < mask / 2 ^ from
    → IsFirstLeft mask from (from + trailing_zeros w64 (mask / 2 ^ from))
unfolding bit
first_left mask from fits some =
    let rest = mask / 2 ^ from in
    let small : rest < 2 ^ 64 = omega (arith, div-le_self mask (2 ^ from), fits) in
    let found = bit_at-trailing_zeros w64 rest some small in
    let place = from + trailing_zeros w64 rest in
    let here : Has mask place = sym (shifted mask from place (omega arith))
    ∙ (ap (bit_at rest) (omega arith) ∙ found.1) in
    record {
      small = mask_below mask place fits here;
      here = here;
      first = λ number after before has.
          let zero : bit_at rest (number - from) ≡ 0 = found.2 (number - from) (omega (arith, after, before)) in
          absurd (omega (arith, shifted mask from number after, zero, has));
    }

-- a mask that isn't empty has a number
pub some_in : (mask : ℕ) → mask < 2 ^ 64 → 0 < mask → (k : ℕ) × Has mask k
unfolding bit
some_in mask fits some = let found = bit_at-trailing_zeros w64 mask some fits in (trailing_zeros w64 mask, found.1)
