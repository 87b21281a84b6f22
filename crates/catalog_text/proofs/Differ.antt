-- Elements that differ, and the places of names that do.
use Rattle.std.proofs.Common.{◌≡◌, ℕ, zero, suc, ◌<◌, ◌==◌, Bool, true, false, not, cond, List, [], ◌∷◌, ◌++◌}
use Rattle.std.proofs.Common.{length, get_or, nat_lt, Some, None, position, refl, sym, arith}
use Rattle.std.proofs.lemmas.Bool.{and_parts, lt-ltb, not-true, or_parts}
use Rattle.std.specs.Bool.{Decides}
use Rattle.std.specs.List.{list_any, prefix_len}
use Rattle.std.specs.Str.{bytes_eq}
use Rattle.std.proofs.lemmas.Bool.Decides.{Decides-eqb, same_from_decides}
use Rattle.std.proofs.lemmas.Slice.Eq.{bytes_eq-Decides}
use Rattle.query_core.specs.Differ.{all_differ}
use Rattle.query_core.proofs.Apart.{new_after}

-- where none passes, the one at a place doesn't
at_place : {A : Type 0} (test : A → Bool) (xs : List A) (i : ℕ) (d : A) → list_any test xs ≡ false → i < length xs
    → test (get_or xs i d) ≡ false
at_place test [] i d e within = absurd (omega arith)
at_place test (x ∷ xs) zero d e within = (or_parts (test x) _ e).0
at_place test (x ∷ xs) (suc i) d e within = at_place test xs i d (or_parts (test x) _ e).1 (omega arith)

module _ {A : Type 0} (same : A → A → Bool) (decides : (x y : A) → Decides (same x y) (x ≡ y)) where
  turned : (x y : A) → same x y ≡ same y x
  turned x y = same_from_decides (same x y) (same y x) (decides x y)
      (λ e. sym ((decides y x).0 e), λ e. (decides y x).1 (sym e))

  -- where no two are the same, the one in the middle is none of those before it
  none_before : (before : List A) (a : A) (after : List A) → all_differ same (before ++ a ∷ after) ≡ true
      → list_any (same a) before ≡ false
  none_before = new_after same turned

-- a text among texts that differ is none of those before it
pub new_text : (before : List (List ℕ)) (text : List ℕ) (after : List (List ℕ))
    → all_differ bytes_eq (before ++ text ∷ after) ≡ true → list_any (bytes_eq text) before ≡ false
new_text = none_before bytes_eq bytes_eq-Decides

-- a number among numbers that differ is none of those before it
pub new_number : (before : List ℕ) (n : ℕ) (after : List ℕ) → all_differ (λ p q. q == p) (before ++ n ∷ after) ≡ true
    → list_any (λ p. p == n) before ≡ false
new_number = none_before (λ p q. q == p) (λ x y. (λ e. sym ((Decides-eqb y x).0 e), λ e. (Decides-eqb y x).1 (sym e)))

-- ---- the place of a name among names that differ

others_before : (names : List (List ℕ)) (i : ℕ) → all_differ bytes_eq names ≡ true → i < length names
    → prefix_len (λ n. not (bytes_eq (get_or names i []) n)) names ≡ i
others_before [] i differ within = absurd (omega arith)
others_before (name ∷ names) zero differ within = rw ((bytes_eq-Decides name name).1 refl) refl
others_before (name ∷ names) (suc i) differ within =
    let parts = and_parts (not (list_any (bytes_eq name) names)) _ differ in
    let other = at_place (bytes_eq name) names i [] (not-true _ parts.0) (omega arith) in
    let rest = others_before names i parts.1 (omega arith) in
    rw (turned bytes_eq bytes_eq-Decides (get_or names i []) name, other) (omega (arith, rest))

found : (n i count : ℕ) → n ≡ i → i < count → cond (nat_lt n count) (Some n) None ≡ Some i
found n i count e within = rw (e, lt-ltb _ _ within) refl

pub place_of : (names : List (List ℕ)) (i : ℕ) → all_differ bytes_eq names ≡ true → i < length names
    → position (bytes_eq (get_or names i [])) names ≡ Some i
place_of names i differ within = found _ i (length names) (others_before names i differ within) within
