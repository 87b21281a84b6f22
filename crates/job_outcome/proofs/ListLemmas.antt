-- Lists that are made by a test, and different numbers.
use Rattle.std.proofs.Common.{rules, ◌≡◌, ℕ, zero, suc, Bool, true, false, cond, List, [], ◌∷◌, map, Contains, filter}
use Rattle.std.proofs.Common.{nat_eq, refl, ap, ◌∙◌, arith}
use Rattle.std.specs.List.{AllByRecursion, AllZip, IsDistinct}
use Rattle.std.proofs.lemmas.Map.Keys.{IsDistinct-cons, IsDistinct-head, IsDistinct-tail}

-- no numbers are different
pub distinct_nil : IsDistinct nat_eq []
unfolding IsDistinct
distinct_nil = search rules

abbrev Apart : ℕ → List ℕ → Type 0
Apart x = AllByRecursion (λ y. nat_eq x y ≡ false)

apart_by : (b : Bool) (x y : ℕ) (kept : List ℕ) → nat_eq x y ≡ false → Apart x kept → Apart x (cond b (y ∷ kept) kept)
apart_by true x y kept differs apart = (differs, apart)
apart_by false x y kept differs apart = apart

kept_apart : (p : ℕ → Bool) (x : ℕ) (xs : List ℕ) → Apart x xs → Apart x (filter p xs)
kept_apart p x [] apart = apart
kept_apart p x (y ∷ ys) apart = apart_by (p y) x y (filter p ys) apart.0 (kept_apart p x ys apart.1)

distinct_by : (b : Bool) (x : ℕ) (kept : List ℕ) → Apart x kept → IsDistinct nat_eq kept
    → IsDistinct nat_eq (cond b (x ∷ kept) kept)
distinct_by true x kept apart distinct = IsDistinct-cons nat_eq x kept apart distinct
distinct_by false x kept apart distinct = distinct

-- what a test keeps of different numbers is different
pub distinct_filter : (p : ℕ → Bool) (xs : List ℕ) → IsDistinct nat_eq xs → IsDistinct nat_eq (filter p xs)
distinct_filter p [] distinct = distinct
distinct_filter p (x ∷ xs) distinct =
    distinct_by (p x) x (filter p xs) (kept_apart p x xs (IsDistinct-head nat_eq x xs distinct))
    (distinct_filter p xs (IsDistinct-tail nat_eq x xs distinct))

-- what stands in a list stands in it with one more in front
pub contains_more : {A : Type 0} (y x : A) (xs : List A) → Contains xs x → Contains (y ∷ xs) x
contains_more y x xs (k, within, at) = (suc k, omega (arith, within), at)

contains_by : {A : Type 0} (b : Bool) (y x : A) (kept : List A) → Contains kept x → Contains (cond b (y ∷ kept) kept) x
contains_by true y x kept there = contains_more y x kept there
contains_by false y x kept there = there

contains_first : {A : Type 0} (b : Bool) (y x : A) (kept : List A) → b ≡ true → y ≡ x
    → Contains (cond b (y ∷ kept) kept) x
contains_first true y x kept passes same = (zero, omega arith, same)
contains_first false y x kept passes same = absurd (search (rules, passes))

-- a test keeps what passes it
pub contains_filter : {A : Type 0} (p : A → Bool) (x : A) (xs : List A) → p x ≡ true → Contains xs x
    → Contains (filter p xs) x
contains_filter p x [] passes (k, within, at) = absurd (omega (arith, within))
contains_filter p x (y ∷ ys) passes (zero, within, at) = contains_first (p y) y x (filter p ys) (ap p at ∙ passes) at
contains_filter p x (y ∷ ys) passes (suc k, within, at) =
    contains_by (p y) y x (filter p ys) (contains_filter p x ys passes (k, omega (arith, within), at))

-- a function of what stands in a list stands in the list of the function's values
pub contains_map : {A B : Type 0} (f : A → B) (x : A) (xs : List A) → Contains xs x → Contains (map f xs) (f x)
contains_map f x [] (k, within, at) = absurd (omega (arith, within))
contains_map f x (y ∷ ys) (zero, within, at) = (zero, omega arith, ap f at)
contains_map f x (y ∷ ys) (suc k, within, at) =
    contains_more (f y) (f x) (map f ys) (contains_map f x ys (k, omega (arith, within), at))

-- and each of these values is that of an element
pub contains_unmap : {A B : Type 0} (f : A → B) (y : B) (xs : List A) → Contains (map f xs) y → (x : A) × Contains xs x
    × (f x ≡ y)
contains_unmap f y [] (k, within, at) = absurd (omega (arith, within))
contains_unmap f y (x ∷ xs) (zero, within, at) = (x, (zero, omega arith, refl), at)
contains_unmap f y (x ∷ xs) (suc k, within, at) =
    let (z, there, is) = contains_unmap f y xs (k, omega (arith, within), at) in
    (z, contains_more x z xs there, is)

-- what holds of two values of each element holds of the two lists of values, place by place
pub all_zip_maps : {A B C : Type 0} (Fact : B → C → Type 0) (f : A → B) (g : A → C) (xs : List A)
    → AllByRecursion (λ x. Fact (f x) (g x)) xs → AllZip Fact (map f xs) (map g xs)
all_zip_maps Fact f g [] each = tt
all_zip_maps Fact f g (x ∷ xs) each = (each.0, all_zip_maps Fact f g xs each.1)
