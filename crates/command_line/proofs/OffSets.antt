-- Which rules may be off together, and the set of their bits.
use Rattle.std.proofs.Common.{◌≡◌, ℕ, ◌+◌, ◌^◌, ◌%◌, ◌<◌, ◌&&◌, ◌↔◌, Bool, true, false, IsTrue, List, [], ◌∷◌, ◌++◌}
use Rattle.std.proofs.Common.{◌≤◌, ◌-◌, ◌*◌, ◌/◌, ◌||◌, zero, suc, not, length, nat_le, Some, refl, sym, ap, ◌∙◌, subst, arith, inl, inr}
use Rattle.std.proofs.lemmas.List.Sums.{sum_by-append}
use Rattle.std.proofs.Math.Bool.{and-false}
use Rattle.std.proofs.lemmas.Bool.{cases_eq, false≢true, leb-true}
use Rattle.std.proofs.lemmas.Bool.Decides.{nat_tests}
use Rattle.std.proofs.lemmas.List.{length-append}
use Rattle.std.proofs.lemmas.List.Folds.{list_all-append}
use native.Mathlib.Nat.{mul_assoc}
use Rattle.std.proofs.lemmas.Nat.{pow-add}
use Rattle.std.proofs.lemmas.Nat.Bits.{bit_at-lt, bit_at_lowest, bit_at-suc}
use Rattle.std.specs.Int.{bit_at}
use Rattle.query_core.specs.Sets.{bit, Has, Adds}
use Rattle.query_stage.specs.OffRules.{MayBeOff}
use Rattle.xform_rules.specs.Rules.{all_rules, can_be_off, rule_number}
use Rattle.xform_rules.specs.declared.rules.Rule.{Rule}
use Rattle.xform_rules.proofs.EveryRule.{every_rule, rule_few}
use Rattle.command_line.specs.Rules.{may_be_off, off_set}
use Rattle.command_line.specs.Reading.{set_where_off}
use Rattle.command_line.specs.Drafts.{IsOffSet}
use Rattle.command_line.proofs.GivenNumbers.{no_bits, more_bits, comes_twice}

false_inside : (a b : Bool) → (a && false && b) ≡ false
false_inside true b = refl
false_inside false b = refl

-- no rule
pub no_rules : IsOffSet [] 0
no_rules = record { sum_of = refl; are_bits = no_bits; can = refl }

-- the sum with one rule more behind
one_more : (before : List Rule) (rule : Rule) → off_set (before ++ rule ∷ []) ≡ off_set before + 2 ^ rule_number rule
one_more before rule = sum_by-append (λ r. 2 ^ rule_number r) before (rule ∷ []) ∙ omega arith

-- a rule that has its place behind others
module _ (before : List Rule) (rule : Rule) (set : ℕ) (is : IsOffSet before set) where
  -- the rule behind the others
  pub more_rules : (new : ℕ) → can_be_off rule ≡ true → (Has set (rule_number rule) → ⊥)
      → Adds set (rule_number rule) new → new ≡ set + 2 ^ rule_number rule → IsOffSet (before ++ rule ∷ []) new
  more_rules new can fresh adds grows =
      let n = rule_number rule in
      record {
        sum_of = grows ∙ ap (λ s. s + 2 ^ n) is.sum_of ∙ sym (one_more before rule);
        are_bits = more_bits rule_number before rule set is.are_bits new fresh adds;
        can = rw (list_all-append, is.can, can) refl;
      }

  -- a rule that must stay on, or that stands there already, refuses the whole
  pub stays_on : (after : List Rule) → can_be_off rule ≡ false → may_be_off (before ++ rule ∷ after) ≡ false
  stays_on after never = rw (list_all-append, is.can, never)
      (false_inside (nat_le 1 (length (before ++ rule ∷ after))) _)

  pub stands_there : (after : List Rule) → Has set (rule_number rule) → may_be_off (before ++ rule ∷ after) ≡ false
  stands_there after has = rw (comes_twice rule_number before rule set is.are_bits after has) (and-false _)

-- rules that have their place are the set of their bits
pub set_of_rules : (before : List Rule) (rule : Rule) (new : ℕ) → IsOffSet (before ++ rule ∷ []) new
    → Some new ≡ set_where_off (before ++ rule ∷ [])
set_of_rules before rule new is =
    let some : nat_le 1 (length (before ++ rule ∷ [])) ≡ true = rw length-append (grind (arith, nat_tests)) in
    rw (some, is.can, is.are_bits.once) (ap Some is.sum_of)

-- a bit that isn't set has room below a power of two that is greater
bit_room : (n set half : ℕ) → bit_at set n ≡ 0 → set < 2 ^ n * (2 * half) → set + 2 ^ n < 2 ^ n * (2 * half)
bit_room zero set half none small =
    let even : set % 2 ≡ 0 = sym (bit_at_lowest set) ∙ none in
    let below : set < 2 * half = omega (arith, small) in
    omega (arith, even, below)
bit_room (suc n) set half none small =
    let whole = 2 ^ n * (2 * half) in
    let next : suc n ≡ 1 + n = omega arith in
    let twice : 2 ^ suc n ≡ 2 * 2 ^ n = ap (λ (x : ℕ). 2 ^ x) next ∙ pow-add 2 1 n in
    let of_both : 2 ^ suc n * (2 * half) ≡ 2 * whole =
    ap (λ (x : ℕ). x * (2 * half)) twice ∙ mul_assoc 2 (2 ^ n) (2 * half) in
    let inner : set / 2 + 2 ^ n < whole =
    bit_room n (set / 2) half (sym (bit_at-suc set n) ∙ none) (omega (arith, small, of_both)) in
    omega (arith, inner, of_both, twice)

-- so has a bit from 2 up to the greatest one
numbers_fit : (most n set : ℕ) → set < 2 ^ (most + 1) → set % 4 ≡ 0 → 2 ≤ n → n ≤ most → bit set n ≡ 0
    → (set + 2 ^ n < 2 ^ (most + 1)) × ((set + 2 ^ n) % 4 ≡ 0)
unfolding bit
numbers_fit most n set small whole low high none =
    let together : n + (1 + (most - n)) ≡ most + 1 = omega (arith, high) in
    let bound : 2 ^ n * (2 * 2 ^ (most - n)) ≡ 2 ^ (most + 1) =
    ap (λ (x : ℕ). 2 ^ n * x) (sym (pow-add 2 1 (most - n))) ∙ sym (pow-add 2 n (1 + (most - n)))
    ∙ ap (λ (x : ℕ). 2 ^ x) together in
    let fits = bit_room n set (2 ^ (most - n)) none (omega (arith, small, bound)) in
    let parts : n ≡ 2 + (n - 2) = omega (arith, low) in
    let fourth : 2 ^ n ≡ 4 * 2 ^ (n - 2) = ap (λ (x : ℕ). 2 ^ x) parts ∙ pow-add 2 2 (n - 2) in
    (omega (arith, fits, bound), omega (arith, fourth, whole))

-- a rule that can be off has a number from 2 on
off_number : (rule : Rule) → can_be_off rule ≡ true → 2 ≤ rule_number rule
off_number rule can =
    let low : (not (can_be_off rule) || nat_le 2 (rule_number rule)) ≡ true =
    every_rule (λ r. not (can_be_off r) || nat_le 2 (rule_number r)) refl rule in
    leb-true 2 (rule_number rule) (subst (λ b. (not b || nat_le 2 (rule_number rule)) ≡ true) can low)

-- a rule that can be off may be off beside others
pub has_room : (rule : Rule) (set : ℕ) → MayBeOff set → can_be_off rule ≡ true → bit set (rule_number rule) ≡ 0
    → MayBeOff (set + 2 ^ rule_number rule)
has_room rule set is can none =
    let fit = numbers_fit (length all_rules) (rule_number rule) set is.below is.expansion_on (off_number rule can)
    (rule_few rule) none in
    record { below = fit.0; expansion_on = fit.1 }

-- a bit that isn't 1 is 0
pub unset : (set n : ℕ) → (Has set n → ⊥) → bit set n ≡ 0
unfolding bit
unset set n never = elim (cases_eq (bit_at set n) 1) [
  | inl one ↦ absurd (never one)
  | inr other ↦ omega (arith, bit_at-lt set n, other)
]

-- what is read of the set, at the rule's number: the bit isn't there, and the new set is the sum of the two
pub fresh_sum : (set number n new : ℕ) (has : Bool) → number ≡ n → IsTrue has ↔ Has set number → has ≡ false
    → (bit set number ≡ 0 → new ≡ set + 2 ^ number) → (Has set n → ⊥) × (bit set n ≡ 0) × (new ≡ set + 2 ^ n)
fresh_sum set number n new has same read unread grows =
    let fresh : Has set n → ⊥ = λ there. let was : has ≡ true = read.1 (subst (Has set) (sym same) there) in
    absurd (false≢true (sym unread ∙ was)) in
    (fresh, unset set n fresh, subst (λ m. bit set m ≡ 0 → new ≡ set + 2 ^ m) same grows (unset set n fresh))
