-- Lists in which nothing comes twice: the first element, one more at the end, and the tests of mapped lists.
use Rattle.std.proofs.Common.{◌≡◌, ◌∙◌, ℕ, Bool, true, false, not, ◌||◌, List, [], ◌∷◌, ◌++◌, map, bytes_eq, refl, sym}
use Rattle.std.proofs.Common.{ap}
use Rattle.std.specs.List.{list_any}
use Rattle.std.proofs.lemmas.List.Folds.{list_any-append}
use Rattle.std.proofs.lemmas.Bool.{and_parts, not-true, or_parts}
use Rattle.query_core.specs.Differ.{all_differ, texts_differ}

-- a test of what f makes of the elements
pub list_any-map : {X Y : Type 0} (p : Y → Bool) (f : X → Y) (xs : List X)
    → list_any p (map f xs) ≡ list_any (λ x. p (f x)) xs
list_any-map p f [] = refl
list_any-map p f (x ∷ xs) = ap (λ b. p (f x) || b) (list_any-map p f xs)

-- ---- names, from the first one on

module _ {X : Type 0} (name : X → List ℕ) (x : X) (others all : List X) where
  -- where the first name comes again, they don't differ
  pub name_again : all ≡ x ∷ others → list_any (λ y. bytes_eq (name x) (name y)) others ≡ true
      → false ≡ texts_differ (map name all)
  name_again is again = rw (is, list_any-map (bytes_eq (name x)) name others, again) refl

  -- where it doesn't, they differ if the others do
  pub name_once : all ≡ x ∷ others → list_any (λ y. bytes_eq (name x) (name y)) others ≡ false
      → texts_differ (map name others) ≡ texts_differ (map name all)
  name_once is new = rw (is, list_any-map (bytes_eq (name x)) name others, new) refl

-- ---- one more at the end

module _ {A : Type 0} (same : A → A → Bool) (turned : (x y : A) → same x y ≡ same y x) where
  -- x is none of the list, and so goes after it
  pub differ_push : (xs : List A) (x : A) → all_differ same xs ≡ true → list_any (same x) xs ≡ false
      → all_differ same (xs ++ x ∷ []) ≡ true
  differ_push [] x differ fresh = refl
  differ_push (y ∷ ys) x differ fresh =
      let apart = and_parts (not (list_any (same y) ys)) (all_differ same ys) differ in
      let other = or_parts (same x y) (list_any (same x) ys) fresh in
      let front : list_any (same y) (ys ++ x ∷ []) ≡ false = list_any-append (same y) ys (x ∷ [])
      ∙ rw (not-true (list_any (same y) ys) apart.0, turned y x, other.0) refl in
      rw front (differ_push ys x apart.1 other.1)

  -- an element is none of those before it
  pub new_after : (xs : List A) (x : A) (ys : List A) → all_differ same (xs ++ x ∷ ys) ≡ true
      → list_any (same x) xs ≡ false
  new_after [] x ys differ = refl
  new_after (z ∷ xs) x ys differ =
      let parts = and_parts (not (list_any (same z) (xs ++ x ∷ ys))) (all_differ same (xs ++ x ∷ ys)) differ in
      let later = or_parts (list_any (same z) xs) (list_any (same z) (x ∷ ys))
      (sym (list_any-append (same z) xs (x ∷ ys)) ∙ not-true (list_any (same z) (xs ++ x ∷ ys)) parts.0) in
      let first = or_parts (same z x) (list_any (same z) ys) later.1 in
      rw (turned x z, first.0) (new_after xs x ys parts.1)
