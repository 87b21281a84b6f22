-- The rules of a set are read as that set.
use Rattle.std.proofs.Common.{◌≡◌, ℕ, ◌+◌, ◌*◌, ◌/◌, ◌%◌, ◌^◌, ◌<◌, ◌&&◌, Bool, true, false, cond, List, [], ◌∷◌, map}
use Rattle.std.proofs.Common.{drop, nat_eq, nat_le, length, Some, refl, sym, ap, subst, ◌∙◌, arith}
use Rattle.std.specs.List.{fold, list_all}
use Rattle.std.proofs.Math.Nat.{div-div-eq-div-mul, div-eq_of_lt}
use Rattle.std.proofs.lemmas.Bool.{and_parts}
use Rattle.std.proofs.lemmas.Bool.Decides.{nat_tests}
use Rattle.std.proofs.lemmas.Nat.{pow-add}
use Rattle.query_core.specs.Differ.{numbers_differ}
use Rattle.query_core.specs.Sets.{bit}
use Rattle.xform_rules.specs.Rules.{all_rules, can_be_off, rule_number}
use Rattle.xform_rules.specs.declared.rules.Rule.{Rule}
use Rattle.query_stage.specs.OffRules.{MayBeOff}
use Rattle.command_line.specs.Reading.{off_of}
use Rattle.command_line.specs.Rules.{may_be_off, off_set, rules_word}
use Rattle.command_line.proofs.Values.{off_read}
use Rattle.dump_replay.specs.Lines.{rules_in}
use Rattle.dump_replay.proofs.Filtered.{all_kept, differ_kept, sum_kept}

-- ---- the bits of a set

-- what the bit of a number adds to a set
bit_adds : (set n : ℕ) → cond (nat_eq (bit set n) 1) (2 ^ n) 0 ≡ bit set n * 2 ^ n
unfolding bit
bit_adds set n = by_bit (set / 2 ^ n % 2) (omega arith)
  where
    by_bit : (b : ℕ) → b < 2 → cond (nat_eq b 1) (2 ^ n) 0 ≡ b * 2 ^ n
    by_bit b small = elim (nat_eq b 1) as (λ t. nat_eq b 1 ≡ t → cond t (2 ^ n) 0 ≡ b * 2 ^ n) [
      | true ↦ λ is. let one : b ≡ 1 = grind (arith, nat_tests) in rw one (omega arith)
      | false ↦ λ is. let none : b ≡ 0 = grind (arith, nat_tests) in rw none (omega arith)
    ] refl

-- sums of the same numbers are the same
sum_same : {X : Type 0} (f g : X → ℕ) → ((x : X) → f x ≡ g x) → (from : ℕ) (xs : List X)
    → fold (λ a x. a + f x) from xs ≡ fold (λ a x. a + g x) from xs
sum_same f g same from [] = refl
sum_same f g same from (x ∷ xs) =
    ap (λ (n : ℕ). fold (λ a y. a + f y) (from + n) xs) (same x) ∙ sum_same f g same (from + g x) xs

-- the rules have the numbers from this one on, one after the other
abbrev are_from : ℕ → List Rule → Bool
are_from n [] = true
are_from n (rule ∷ more) = nat_eq (rule_number rule) n && are_from (n + 1) more

-- what is left of a set without its lowest bits is one bit, and what is left without that
one_bit_less : (set n sum : ℕ) → sum + set / 2 ^ n * 2 ^ n ≡ set
    → (sum + bit set n * 2 ^ n) + set / 2 ^ (n + 1) * 2 ^ (n + 1) ≡ set
unfolding bit
one_bit_less set n sum so_far =
    let twice : 2 ^ (n + 1) ≡ 2 ^ n * 2 = pow-add 2 n 1 in
    let half : set / 2 ^ (n + 1) ≡ set / 2 ^ n / 2 =
    ap (λ (p : ℕ). set / p) twice ∙ sym (div-div-eq-div-mul set (2 ^ n) 2) in
    rw (half, twice) (parts (set / 2 ^ n) (set / 2 ^ n / 2) (set / 2 ^ n % 2) (omega arith) ∙ so_far)
  where
    parts : (whole half low : ℕ) → whole ≡ 2 * half + low
        → (sum + low * 2 ^ n) + half * (2 ^ n * 2) ≡ sum + whole * 2 ^ n
    parts whole half low are = rw are (omega arith)

-- the bits of such rules' numbers make the set, where what they are added to has the others
bits_from : (set n sum : ℕ) (some : List Rule) → are_from n some ≡ true → sum + set / 2 ^ n * 2 ^ n ≡ set
    → set < 2 ^ (n + length some)
    → fold (λ a (rule : Rule). a + bit set (rule_number rule) * 2 ^ rule_number rule) sum some ≡ set
bits_from set n sum [] are so_far small =
    let none : set / 2 ^ n ≡ 0 = div-eq_of_lt (subst (λ (m : ℕ). set < 2 ^ m) (omega arith) small) in
    omega (arith, rw none at so_far)
bits_from set n sum (rule ∷ more) are so_far small =
    let parts = and_parts (nat_eq (rule_number rule) n) (are_from (n + 1) more) are in
    let number : rule_number rule ≡ n = grind (arith, nat_tests, parts.0) in
    let behind : n + length (rule ∷ more) ≡ n + 1 + length more = omega arith in
    rw number (bits_from set (n + 1) (sum + bit set n * 2 ^ n) more parts.1 (one_bit_less set n sum so_far)
    (rw behind at small))

-- the bits of all rules' numbers make the set
bits_of_rules : (set : ℕ) → set < 2 ^ (1 + length all_rules) → set % 4 ≡ 0
    → fold (λ a (rule : Rule). a + bit set (rule_number rule) * 2 ^ rule_number rule) 0 all_rules ≡ set
bits_of_rules set small whole = bits_from set 1 0 all_rules refl (omega (arith, whole)) small

-- the rules of a set have the bits of that set
pub set_of_rules : (set : ℕ) → MayBeOff set → off_set (rules_in set) ≡ set
set_of_rules set may =
    sum_kept (λ (rule : Rule). 2 ^ rule_number rule) (λ rule. nat_eq (bit set (rule_number rule)) 1) 0 all_rules
    ∙ sum_same (λ (rule : Rule). cond (nat_eq (bit set (rule_number rule)) 1) (2 ^ rule_number rule) 0)
    (λ rule. bit set (rule_number rule) * 2 ^ rule_number rule) (λ rule. bit_adds set (rule_number rule)) 0 all_rules
    ∙ bits_of_rules set may.below may.expansion_on

-- ---- which rules there are

-- the expansion is on
expansion_on : (set : ℕ) → set % 4 ≡ 0 → nat_eq (bit set 1) 1 ≡ false
unfolding bit
expansion_on set whole = let none : set / 2 % 2 ≡ 0 = omega arith in rw none refl

can_be : (set : ℕ) → set % 4 ≡ 0 → list_all can_be_off (rules_in set) ≡ true
can_be set whole = rw (expansion_on set whole)
    (all_kept can_be_off (λ rule. nat_eq (bit set (rule_number rule)) 1) (drop 1 all_rules) refl)

differ : (set : ℕ) → numbers_differ (map rule_number (rules_in set)) ≡ true
differ set = differ_kept nat_eq rule_number (λ rule. nat_eq (bit set (rule_number rule)) 1) all_rules refl

-- the names of the set's rules are read as the set
pub set_read : (set : ℕ) → MayBeOff set → (first : Rule) (others : List Rule) → rules_in set ≡ first ∷ others
    → off_of (rules_word (first ∷ others)) ≡ Some set
set_read set may first others are =
    let can : list_all can_be_off (first ∷ others) ≡ true = rw are at (can_be set may.expansion_on) in
    let apart : numbers_differ (map rule_number (first ∷ others)) ≡ true = rw are at (differ set) in
    let some : nat_le 1 (length (first ∷ others)) ≡ true = grind (arith, nat_tests) in
    let all : may_be_off (first ∷ others) ≡ true = rw (some, can, apart) refl in
    off_read (first ∷ others) all ∙ ap Some (ap off_set (sym are) ∙ set_of_rules set may)

-- a set without rules is empty
pub set_of_none : (set : ℕ) → MayBeOff set → rules_in set ≡ [] → set ≡ 0
set_of_none set may none = sym (set_of_rules set may) ∙ ap off_set none
