-- What is kept of a list when only the first under each number is.
use Rattle.std.proofs.Common.{◌≡◌, ◌∙◌, ℕ, suc, ◌≤◌, ◌||◌, ◌==◌, inl, inr, Bool, true, false, not, cond, List, [], ◌∷◌}
use Rattle.std.proofs.Common.{length, map, filter, nat_eq, nat_le, refl, sym, ap, arith}
use Rattle.std.specs.List.{list_all, list_any}
use Rattle.std.proofs.lemmas.Bool.{eqb-true, and_from, and_parts, not-true, or_cases, or_left, or_parts, or_right}
use Rattle.std.proofs.lemmas.Bool.Decides.{nat_tests}
use Rattle.query_core.specs.Differ.{all_differ, numbers_differ}
use Rattle.sql_bind.specs.Query.{distinct_by, itself}

module _ {A : Type 0} (keep : A → Bool) where
  shorter_case : (x : A) (ys : List A) (n : ℕ) (b : Bool) → length ys ≤ n → length (cond b (x ∷ ys) ys) ≤ suc n
  shorter_case x ys n true le = omega arith
  shorter_case x ys n false le = omega arith

  shorter : (xs : List A) → length (filter keep xs) ≤ length xs
  shorter [] = omega arith
  shorter (x ∷ xs) = shorter_case x (filter keep xs) (length xs) (keep x) (shorter xs)

  passes_case : (test : A → Bool) (x : A) (ys : List A) (b : Bool) → test x ≡ true → list_all test ys ≡ true
      → list_all test (cond b (x ∷ ys) ys) ≡ true
  passes_case test x ys true one all = and_from (test x) (list_all test ys) one all
  passes_case test x ys false one all = all

  passes : (test : A → Bool) (xs : List A) → list_all test xs ≡ true → list_all test (filter keep xs) ≡ true
  passes test [] all = refl
  passes test (x ∷ xs) all =
      let parts = and_parts (test x) (list_all test xs) all in
      passes_case test x (filter keep xs) (keep x) parts.0 (passes test xs parts.1)

  fresh_case : (test : A → Bool) (x : A) (ys : List A) (b : Bool) → test x ≡ false → list_any test ys ≡ false
      → list_any test (cond b (x ∷ ys) ys) ≡ false
  fresh_case test x ys true one none = rw (one, none) refl
  fresh_case test x ys false one none = none

module _ {A : Type 0} (number : A → ℕ) where
  -- no more are kept than there are
  pub no_longer : (xs : List A) → length (distinct_by number xs) ≤ length xs
  unfolding distinct_by
  no_longer [] = omega arith
  no_longer (x ∷ xs) = let le : length (filter (λ y. not (number y == number x)) (distinct_by number xs)) ≤ length
      (distinct_by number xs) = shorter (λ y. not (number y == number x)) (distinct_by number xs) in
      omega (arith, le, no_longer xs)

  -- what all pass, those that are kept pass
  pub all_kept : (test : A → Bool) (xs : List A) → list_all test xs ≡ true
      → list_all test (distinct_by number xs) ≡ true
  unfolding distinct_by
  all_kept test [] all = refl
  all_kept test (x ∷ xs) all =
      let parts = and_parts (test x) (list_all test xs) all in
      and_from (test x) (list_all test (filter (λ y. not (number y == number x)) (distinct_by number xs))) parts.0
      (passes (λ y. not (number y == number x)) test (distinct_by number xs) (all_kept test xs parts.1))

  other_case : (x y : A) (ys : List A) (b : Bool) → (number y == number x) ≡ b
      → list_any (nat_eq (number x)) (map number ys) ≡ false
      → list_any (nat_eq (number x)) (map number (cond (not b) (y ∷ ys) ys)) ≡ false
  other_case x y ys true is none = none
  other_case x y ys false is none = let other : nat_eq (number x) (number y) ≡ false = grind (arith, nat_tests) in
      rw other none

  without_it : (x : A) (ys : List A) → list_any (nat_eq (number x))
      (map number (filter (λ y. not (number y == number x)) ys)) ≡ false
  without_it x [] = refl
  without_it x (y ∷ ys) = other_case x y (filter (λ z. not (number z == number x)) ys) (number y == number x) refl
      (without_it x ys)

  still_case : (keep : A → Bool) (n : ℕ) (y : A) (ys : List A) (b : Bool) → nat_eq n (number y) ≡ false
      → list_any (nat_eq n) (map number ys) ≡ false → list_any (nat_eq n) (map number (cond b (y ∷ ys) ys)) ≡ false
  still_case keep n y ys true one none = rw (one, none) refl
  still_case keep n y ys false one none = none

  still_none : (keep : A → Bool) (n : ℕ) (ys : List A) → list_any (nat_eq n) (map number ys) ≡ false
      → list_any (nat_eq n) (map number (filter keep ys)) ≡ false
  still_none keep n [] none = refl
  still_none keep n (y ∷ ys) none =
      let parts = or_parts (nat_eq n (number y)) (list_any (nat_eq n) (map number ys)) none in
      still_case keep n y (filter keep ys) (keep y) parts.0 (still_none keep n ys parts.1)

  differ_case : (y : A) (ys : List A) (b : Bool) → list_any (nat_eq (number y)) (map number ys) ≡ false
      → numbers_differ (map number ys) ≡ true → numbers_differ (map number (cond b (y ∷ ys) ys)) ≡ true
  differ_case y ys true none differ = rw (none, differ) refl
  differ_case y ys false none differ = differ

  still_differ : (keep : A → Bool) (ys : List A) → numbers_differ (map number ys) ≡ true
      → numbers_differ (map number (filter keep ys)) ≡ true
  still_differ keep [] differ = refl
  still_differ keep (y ∷ ys) differ =
      let parts = and_parts (not (list_any (nat_eq (number y)) (map number ys))) (all_differ nat_eq (map number ys))
      differ in
      differ_case y (filter keep ys) (keep y) (still_none keep (number y) ys (not-true _ parts.0))
      (still_differ keep ys parts.1)

  -- no number comes twice
  pub no_twice : (xs : List A) → numbers_differ (map number (distinct_by number xs)) ≡ true
  unfolding distinct_by
  no_twice [] = refl
  no_twice (x ∷ xs) = rw (without_it x (distinct_by number xs))
      (still_differ (λ y. not (number y == number x)) (distinct_by number xs) (no_twice xs))

  found_case : (n : ℕ) (x y : A) (ys : List A) (b : Bool) → (number y == number x) ≡ b → (number x == n) ≡ false
      → ((number y == n) || list_any (λ z. number z == n) ys) ≡ true
      → (list_any (λ z. number z == n) ys ≡ true
      → list_any (λ z. number z == n) (filter (λ z. not (number z == number x)) ys) ≡ true)
      → list_any (λ z. number z == n) (cond (not b) (y ∷ filter (λ z. not (number z == number x)) ys)
      (filter (λ z. not (number z == number x)) ys)) ≡ true
  found_case n x y ys true is other found rest = let gone : (number y == n) ≡ false =
      rw (eqb-true (number y) (number x) is) other in rest (rw gone at found)
  found_case n x y ys false is other found rest =
      elim (or_cases (number y == n) (list_any (λ z. number z == n) ys) found) [
        | inl first ↦ or_left (number y == n) _ first
        | inr later ↦ or_right (number y == n) _ (rest later)
      ]

  still_found : (n : ℕ) (x : A) (ys : List A) → (number x == n) ≡ false → list_any (λ z. number z == n) ys ≡ true
      → list_any (λ z. number z == n) (filter (λ z. not (number z == number x)) ys) ≡ true
  still_found n x [] other found = absurd cc
  still_found n x (y ∷ ys) other found = found_case n x y ys (number y == number x) refl other found
      (still_found n x ys other)

  kept_case : (n : ℕ) (x : A) (d : List A) (b : Bool) → (number x == n) ≡ b
      → (b ≡ false → list_any (λ z. number z == n) d ≡ true)
      → (b || list_any (λ z. number z == n) (filter (λ z. not (number z == number x)) d)) ≡ true
  kept_case n x d true is rest = refl
  kept_case n x d false is rest = still_found n x d is (rest refl)

  -- each number that was there is kept
  pub number_kept : (n : ℕ) (xs : List A) → list_any (λ z. number z == n) xs ≡ true
      → list_any (λ z. number z == n) (distinct_by number xs) ≡ true
  unfolding distinct_by
  number_kept n [] found = absurd cc
  number_kept n (x ∷ xs) found = kept_case n x (distinct_by number xs) (number x == n) refl
      (λ other. number_kept n xs (rw other at found))

at_least_one : (n m : ℕ) → m ≡ suc n → nat_le 1 m ≡ true
at_least_one n m e = grind (arith, nat_tests)

-- an empty list, and no other, leaves nothing
pub some_kept : {A : Type 0} (number : A → ℕ) (xs : List A)
    → nat_le 1 (length (distinct_by number xs)) ≡ nat_le 1 (length xs)
unfolding distinct_by
some_kept number [] = refl
some_kept number (x ∷ xs) =
    let rest = filter (λ y. not (number y == number x)) (distinct_by number xs) in
    at_least_one (length rest) (length (x ∷ rest)) refl ∙ sym (at_least_one (length xs) (length (x ∷ xs)) refl)

pub map_itself : (xs : List ℕ) → map itself xs ≡ xs
map_itself [] = refl
map_itself (x ∷ xs) = ap (λ (ys : List ℕ). x ∷ ys) (map_itself xs)
