-- Numbers that are given once, and the set of their bits.
use Rattle.std.proofs.Common.{◌≡◌, ℕ, ◌&&◌, ◌||◌, ◌↔◌, Bool, true, false, not, List, [], ◌∷◌, ◌++◌, map, nat_eq, refl}
use Rattle.std.proofs.Common.{sym, ap, ◌∙◌, arith, inl, inr}
use Rattle.std.specs.List.{list_any}
use Rattle.std.proofs.Math.Bool.{and-false, or-false, or-true}
use Rattle.std.proofs.lemmas.Bool.{and_parts, cases_eq, false_from_ne_true, false≢true}
use Rattle.std.proofs.lemmas.Bool.Decides.{nat_tests}
use Rattle.std.proofs.lemmas.List.{map-append}
use Rattle.std.proofs.lemmas.List.Folds.{list_any-append}
use Rattle.std.proofs.lemmas.Nat.Bits.{bit_at-zero}
use Rattle.query_core.specs.Differ.{numbers_differ}
use Rattle.query_core.specs.Sets.{bit, Has, Adds}
use Rattle.command_line.specs.Drafts.{AreBits}

-- a number that comes again makes a list in which something comes twice
twice : (n : ℕ) (front back : List ℕ) → list_any (nat_eq n) front ≡ true → numbers_differ (front ++ n ∷ back) ≡ false
twice n [] back here = absurd (false≢true here)
twice n (x ∷ front) back here =
    elim (cases_eq n x) [
      | inl same ↦ let at : list_any (nat_eq x) (front ++ n ∷ back) ≡ true =
          rw list_any-append (again x n back front same) in rw at refl
      | inr other ↦
          let no : nat_eq n x ≡ false = grind (arith, nat_tests) in
          let rest : list_any (nat_eq n) front ≡ true = rw no at here in
          rw (twice n front back rest) (and-false _)
    ]
  where
    again : (x n : ℕ) (back front : List ℕ) → n ≡ x
        → (list_any (nat_eq x) front || list_any (nat_eq x) (n ∷ back)) ≡ true
    again x n back front same = let yes : nat_eq x n ≡ true = grind (arith, nat_tests) in
        rw yes (or-true (list_any (nat_eq x) front))

-- a number that is new may be put behind numbers that differ
one_behind : (n : ℕ) (front : List ℕ) → list_any (nat_eq n) front ≡ false → numbers_differ front ≡ true
    → numbers_differ (front ++ n ∷ []) ≡ true
one_behind n [] new apart = refl
one_behind n (x ∷ front) new apart =
    elim (cases_eq n x) [
      | inl same ↦ let yes : nat_eq n x ≡ true = grind (arith, nat_tests) in absurd (false≢true (sym (rw yes at new)))
      | inr other ↦
          let no : nat_eq n x ≡ false = grind (arith, nat_tests) in
          let no_again : nat_eq x n ≡ false = grind (arith, nat_tests) in
          let rest : list_any (nat_eq n) front ≡ false = rw no at new in
          let parts = and_parts (not (list_any (nat_eq x) front)) (numbers_differ front) apart in
          let whole : list_any (nat_eq x) (front ++ n ∷ []) ≡ (list_any (nat_eq x) front || false) =
          list_any-append (nat_eq x) front (n ∷ []) ∙ ap (λ b. list_any (nat_eq x) front || b) (rw no_again refl) in
          rw whole (joined (list_any (nat_eq x) front) (numbers_differ (front ++ n ∷ [])) parts.0
          (one_behind n front rest parts.1))
    ]
  where
    joined : (a b : Bool) → not a ≡ true → b ≡ true → (not (a || false) && b) ≡ true
    joined true b absent there = absurd (false≢true absent)
    joined false b absent there = there

-- the empty set has no bit
empty_set : (n : ℕ) → Has 0 n → ⊥
unfolding bit
empty_set n has = omega (arith, bit_at-zero n, has)

-- no number
pub no_bits : AreBits [] 0
no_bits = record { has = λ n. (λ has. absurd (empty_set n has), λ here. absurd (false≢true here)); once = refl }

-- a number more
module _ {T : Type 0} (number : T → ℕ) (before : List T) (one : T) (set : ℕ) (are : AreBits (map number before) set)
  where
    -- the numbers with one more among them
    numbers : (after : List T) → map number (before ++ one ∷ after) ≡ map number before ++ number one ∷ map number after
    numbers after = map-append number before (one ∷ after)

    -- a set that has the new number's bit beside its own
    has_more : (new : ℕ) → Adds set (number one) new → (m : ℕ) → Has new m
        ↔ (list_any (nat_eq m) (map number (before ++ one ∷ [])) ≡ true)
    has_more new adds m =
        rw (numbers [], list_any-append) (elim (cases_eq m (number one)) [
          | inl same ↦ let yes : nat_eq m (number one) ≡ true = grind (arith, nat_tests) in
              (λ has. rw yes (or-true (list_any (nat_eq m) (map number before))), λ here. rw same adds.this)
          | inr other ↦
              let no : nat_eq m (number one) ≡ false = grind (arith, nat_tests) in
              let old : bit new m ≡ bit set m = adds.others m other in (
                λ has. rw no (or-false _ ∙ (are.has m).0 (sym old ∙ has)),
                λ here. old
                    ∙ (are.has m).1 (sym (or-false _) ∙ rw no at here),
              )
        ])

    -- a new number behind the others
    pub more_bits : (new : ℕ) → (Has set (number one) → ⊥) → Adds set (number one) new
        → AreBits (map number (before ++ one ∷ [])) new
    more_bits new fresh adds = record {
      has = has_more new adds;
      once = rw (numbers []) (one_behind (number one) (map number before)
          (false_from_ne_true (list_any (nat_eq (number one)) (map number before))
          (λ there. fresh ((are.has (number one)).1 there))) are.once);
    }

    -- a number that is there already comes twice
    pub comes_twice : (after : List T) → Has set (number one)
        → numbers_differ (map number (before ++ one ∷ after)) ≡ false
    comes_twice after has = rw (numbers after)
        (twice (number one) (map number before) (map number after) ((are.has (number one)).0 has))
