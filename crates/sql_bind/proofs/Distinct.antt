-- Keeping the first of the elements under each number.
use Rattle.std.proofs.Common.{◌≡◌, ◌∙◌, ℕ, ◌==◌, Bool, true, false, not, ◌&&◌, ◌||◌, cond, List, [], ◌∷◌, ◌++◌, filter}
use Rattle.std.proofs.Common.{refl, ap, sym, append_assoc, ◌+◌, ◌<◌, ◌≤◌, length, map, drop, get_or, drop-cons, add-one}
use Rattle.std.proofs.lemmas.List.{append-nil, drop_all}
use Rattle.std.proofs.lemmas.Bool.{eqb-true}
use Rattle.std.proofs.lemmas.List.Folds.{list_any-append}
use Rattle.sql_bind.specs.Query.{any_number, distinct_by, with_new}

-- those whose numbers are none of these elements' numbers
unfoldable pub others : {A : Type 0} → (A → ℕ) → List A → List A → List A
others number kept xs = filter (λ y. not (any_number number (number y) kept)) xs

module _ {A : Type 0} (p q : A → Bool) where
  kept_case : (x : A) (xs : List A) (b : Bool) → q x ≡ b → (q x ≡ false → p x ≡ false)
      → filter p (filter q xs) ≡ filter p xs
      → filter p (cond b (x ∷ filter q xs) (filter q xs)) ≡ cond (p x) (x ∷ filter p xs) (filter p xs)
  kept_case x xs true e fails rest = ap (λ ys. cond (p x) (x ∷ ys) ys) rest
  kept_case x xs false e fails rest = rw (fails e) rest

  -- a test that fails wherever another does takes nothing more after it
  pub filter_after : (xs : List A) → ((x : A) → q x ≡ false → p x ≡ false) → filter p (filter q xs) ≡ filter p xs
  filter_after [] fails = refl
  filter_after (x ∷ xs) fails = kept_case x xs (q x) refl (fails x) (filter_after xs fails)

  both_case : (x : A) (ys : List A) (b : Bool) → q x ≡ b
      → filter p (cond b (x ∷ ys) ys) ≡ cond (p x && b) (x ∷ filter p ys) (filter p ys)
  both_case x ys true e = elim (p x) as (λ v.
      cond v (x ∷ filter p ys) (filter p ys) ≡ cond (v && true) (x ∷ filter p ys) (filter p ys)) [
        | true ↦ refl
        | false ↦
            refl
      ]
  both_case x ys false e = elim (p x) as (λ v. filter p ys ≡ cond (v && false) (x ∷ filter p ys) (filter p ys)) [
    | true ↦
        refl
    | false ↦ refl
  ]

-- one test after another is their conjunction
pub filter_both : {A : Type 0} (p q r : A → Bool) (xs : List A) → ((x : A) → r x ≡ (p x && q x))
    → filter p (filter q xs) ≡ filter r xs
filter_both p q r [] both = refl
filter_both p q r (x ∷ xs) both = both_case p q x (filter q xs) (q x) refl ∙ rw (both x, filter_both p q r xs both) refl

module _ {A : Type 0} (number : A → ℕ) where
  covered : (kept : List A) (x y : A) (b : Bool) → (number y == number x) ≡ b → any_number number (number x) kept ≡ true
      → not b ≡ false
      → not (any_number number (number y) kept) ≡ false
  covered kept x y true is there e = rw (eqb-true (number y) (number x) is, there) refl
  covered kept x y false is there e = absurd cc

  -- an element whose number is there adds nothing
  repeated : (kept xs : List A) (x : A) → any_number number (number x) kept ≡ true
      → others number kept (x ∷ filter (λ y. not (number y == number x)) xs) ≡ others number kept xs
  unfolding others
  repeated kept xs x there =
      rw there (filter_after (λ y. not (any_number number (number y) kept)) (λ y. not (number y == number x)) xs
      (λ y. covered kept x y (number y == number x) refl there))

  unless : (a b : Bool) → not (a || (b || false)) ≡ (not a && not b)
  unless true b = refl
  unless false true = refl
  unless false false = refl

  without : (kept : List A) (x y : A) → not
      (any_number number (number y) (kept ++ x ∷ [])) ≡ (not (any_number number (number y) kept) && not
      (number y == number x))
  without kept x y = rw (list_any-append (λ k. number y == number k) kept (x ∷ []))
      (unless (any_number number (number y) kept) (number y == number x))

  -- an element whose number is new goes last
  added : (kept xs : List A) (x : A) → any_number number (number x) kept ≡ false
      → others number kept (x ∷ filter (λ y. not (number y == number x)) xs) ≡ x ∷ others number (kept ++ x ∷ []) xs
  unfolding others
  added kept xs x new =
      rw new (ap (λ (ys : List A). x ∷ ys) (filter_both (λ y. not (any_number number (number y) kept))
      (λ y. not (number y == number x)) (λ y. not (any_number number (number y) (kept ++ x ∷ []))) xs
      (without kept x)))

  step_case : (kept xs : List A) (x : A) (b : Bool) → any_number number (number x) kept ≡ b
      → cond b kept (kept ++ x ∷ []) ++ others number (cond b kept (kept ++ x ∷ [])) xs ≡ kept ++ others number kept
      (x ∷ filter (λ y. not (number y == number x)) xs)
  unfolding others
  step_case kept xs x true is = ap (λ (ys : List A). kept ++ ys) (sym (repeated kept xs x is))
  step_case kept xs x false is = append_assoc kept (x ∷ []) (others number (kept ++ x ∷ []) xs)
      ∙ ap (λ (ys : List A). kept ++ ys) (sym (added kept xs x is))

  -- with the next element kept, unless its number is there, the rest gives what it gave before
  pub goes_on : (kept xs : List A) (x : A)
      → with_new number kept x ++ others number (with_new number kept x) (distinct_by number xs) ≡ kept ++ others number
      kept (distinct_by number (x ∷ xs))
  unfolding others distinct_by with_new
  goes_on kept xs x = step_case kept (distinct_by number xs) x (any_number number (number x) kept) refl

  all_others : (xs : List A) → filter (λ y. true) xs ≡ xs
  all_others [] = refl
  all_others (x ∷ xs) = ap (λ (ys : List A). x ∷ ys) (all_others xs)

  -- none is kept at first
  pub begins : (xs : List A) → [] ++ others number [] xs ≡ xs
  unfolding others
  begins xs = all_others xs

  -- nothing is left
  pub ends : (kept : List A) → kept ++ others number kept (distinct_by number []) ≡ kept
  unfolding others distinct_by
  ends kept = append-nil kept

module _ {A X : Type 0} (number : A → ℕ) (made_of : X → A) where
  -- the element at place i is kept, unless its number is there
  pub carries : (xs : List X) (i : ℕ) (d : X) (kept new : List A) (x : A) (total : List A) → i < length xs
      → x ≡ made_of (get_or xs i d) → new ≡ with_new number kept x
      → kept ++ others number kept (distinct_by number (map made_of (drop i xs))) ≡ total
      → new ++ others number new (distinct_by number (map made_of (drop (i + 1) xs))) ≡ total
  carries xs i d kept new x total lt is made so_far =
      let next : map made_of (drop i xs) ≡ x ∷ map made_of (drop (i + 1) xs) =
      rw (add-one i, drop-cons xs i d lt, is) refl in
      rw made (goes_on number kept (map made_of (drop (i + 1) xs)) x ∙ rw next at so_far)

  -- no element is left
  pub finishes : (xs : List X) (i : ℕ) (kept total : List A) → length xs ≤ i
      → kept ++ others number kept (distinct_by number (map made_of (drop i xs))) ≡ total → kept ≡ total
  finishes xs i kept total le so_far = sym (ends number kept) ∙ rw (drop_all i xs le) at so_far
