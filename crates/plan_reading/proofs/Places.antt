-- What stands at the places of a list in which nothing comes twice.
use Rattle.std.proofs.Common.{◌≡◌, ℕ, zero, suc, ◌<◌, Bool, true, false, not, List, [], ◌∷◌, length, Some}
use Rattle.std.proofs.Common.{refl, sym, ap, ◌∙◌, subst, arith}
use Rattle.std.specs.Prelude.{slice_get}
use Rattle.std.specs.List.{list_all, list_any}
use Rattle.std.proofs.lemmas.Bool.{and_parts, not-true, or_parts}
use Rattle.query_core.specs.Differ.{all_differ}

-- below the length there is an element
pub there : {X : Type 0} (xs : List X) (n : ℕ) → n < length xs → (x : X) × (slice_get xs n ≡ Some x)
there [] n below = absurd (omega (arith, below))
there (x ∷ xs) zero below = (x, refl)
there (x ∷ xs) (suc n) below = there xs n (omega (arith, below))

-- it passes where all do
pub passed_at : {X : Type 0} (p : X → Bool) (xs : List X) (n : ℕ) (x : X) → list_all p xs ≡ true
    → slice_get xs n ≡ Some x → p x ≡ true
passed_at p [] n x all got = absurd cc
passed_at p (y ∷ ys) zero x all got = let same : y ≡ x = cc in
    subst (λ z. p z ≡ true) same (and_parts (p y) (list_all p ys) all).0
passed_at p (y ∷ ys) (suc n) x all got = passed_at p ys n x (and_parts (p y) (list_all p ys) all).1 got

module _ {X : Type 0} (same : X → X → Bool) where
  -- what is none of the others is not this one
  none_later : (x : X) (xs : List X) (n : ℕ) (y : X) → list_any (same x) xs ≡ false → slice_get xs n ≡ Some y
      → same x y ≡ false
  none_later x [] n y none got = absurd cc
  none_later x (z ∷ zs) zero y none got = let is : z ≡ y = cc in
      subst (λ w. same x w ≡ false) is (or_parts (same x z) (list_any (same x) zs) none).0
  none_later x (z ∷ zs) (suc n) y none got =
      none_later x zs n y (or_parts (same x z) (list_any (same x) zs) none).1 got

  -- one that comes again stands at one place
  pub one_place : (xs : List X) (m n : ℕ) (x y : X) → all_differ same xs ≡ true → slice_get xs m ≡ Some x
      → slice_get xs n ≡ Some y → same x y ≡ true → same y x ≡ true → m ≡ n
  one_place [] m n x y differ first second there_and back = absurd cc
  one_place (z ∷ zs) zero zero x y differ first second there_and back = refl
  one_place (z ∷ zs) zero (suc n) x y differ first second there_and back =
      let is : z ≡ x = cc in
      let none = not-true (list_any (same z) zs) (and_parts (not (list_any (same z) zs)) (all_differ same zs) differ).0 in
      let never : false ≡ true = sym (subst (λ w. same w y ≡ false) is (none_later z zs n y none second)) ∙ there_and in
      absurd cc
  one_place (z ∷ zs) (suc m) zero x y differ first second there_and back =
      let is : z ≡ y = cc in
      let none = not-true (list_any (same z) zs) (and_parts (not (list_any (same z) zs)) (all_differ same zs) differ).0 in
      let never : false ≡ true = sym (subst (λ w. same w x ≡ false) is (none_later z zs m x none first)) ∙ back in
      absurd cc
  one_place (z ∷ zs) (suc m) (suc n) x y differ first second there_and back =
      ap suc (one_place zs m n x y (and_parts (not (list_any (same z) zs)) (all_differ same zs) differ).1 first second there_and back)
