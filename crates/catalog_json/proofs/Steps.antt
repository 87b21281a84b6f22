-- What a reading without a fault says of its parts.
use Rattle.std.proofs.Common.{◌≡◌, ◌==◌, ℕ, ◌≤◌, IfOk, map, Bool, true, false, List, [], ◌∷◌, ◌++◌, length}
use Rattle.std.proofs.Common.{position, nat_lt, Option, Some, None, option_map, option_and_then, Ok, Err, refl, arith}
use Rattle.std.specs.List.{list_any}
use Rattle.orca_base.proofs.Checked.{all_pass, bind_ok, each_counts, each_keeps, met, not_met}
use Rattle.std.proofs.lemmas.Bool.{lt-ltb}
use Rattle.std.specs.Str.{bytes_eq}
use Rattle.serde_json.specs.Data.{Data}
use Rattle.std.proofs.lemmas.List.{length-map}
use Rattle.std.proofs.lemmas.List.Quantifiers.{position-Some}
use Rattle.serde_json.specs.Find.{as_str, as_array}
use Rattle.serde_json.specs.View.{view}
use Rattle.serde_json.specs.declared.value.Value.{Value}
use Rattle.catalog_json.specs.declared.place.Place.{Place}
use Rattle.catalog_json.specs.declared.fault.Fault.TheVariants.{Shape, Range, Twice}
use Rattle.query_core.specs.Catalog.{is_catalog_name}
use Rattle.query_core.specs.Histogram.{within}
use Rattle.catalog_json.specs.Walk.{Yields, Reading, each, elements, in_limits, list_at, name_at, named, new_name_at}
use Rattle.catalog_json.specs.Walk.{new_place, number_at, of_length, whole}

-- ---- numbers, names and lists

limits_kept : (least most : ℕ) (at : Place) (found : Option ℕ) (n : ℕ) → in_limits least most at found ≡ Ok n
    → within least most n ≡ true
limits_kept least most at None n e = absurd cc
limits_kept least most at (Some m) n e = let test = met (within least most m) (Range at) m n e in rw (← test.1) test.0

pub number_kept : (least most : ℕ) (at : Place) (found : Option Data) (n : ℕ) → number_at least most at found ≡ Ok n
    → within least most n ≡ true
number_kept least most at found n e = limits_kept least most at (option_and_then whole found) n e

named_kept : (at : Place) (found : Option (List ℕ)) (name : List ℕ) → named at found ≡ Ok name
    → is_catalog_name name ≡ true
named_kept at None name e = absurd cc
named_kept at (Some text) name e = let test = met (is_catalog_name text) (Shape at) text name e in rw (← test.1) test.0

pub name_kept : (at : Place) (found : Option Data) (name : List ℕ) → name_at at found ≡ Ok name
    → is_catalog_name name ≡ true
name_kept at found name e = named_kept at (option_and_then as_str found) name e

pub new_name_kept : (at : Place) (before : List (List ℕ)) (found : Option Data) (name : List ℕ)
    → new_name_at at before found ≡ Ok name → (is_catalog_name name ≡ true) × (list_any (bytes_eq name) before ≡ false)
unfolding new_name_at
new_name_kept at before found name e =
    let text = bind_ok (name_at at found) _ name e in
    let test = not_met (list_any (bytes_eq text.0) before) (Twice at) text.0 name text.2 in
    rw (← test.1) (name_kept at found text.0 text.1, test.0)

length_kept : (least most : ℕ) (at : Place) (found : Option (List Data)) (ds : List Data)
    → of_length least most at found ≡ Ok ds → within least most (length ds) ≡ true
length_kept least most at None ds e = absurd cc
length_kept least most at (Some es) ds e = let test = met (within least most (length es)) (Range at) es ds e in
    rw (← test.1) test.0

pub list_kept : (least most : ℕ) (at : Place) (found : Option Data) (ds : List Data)
    → list_at least most at found ≡ Ok ds → within least most (length ds) ≡ true
list_kept least most at found ds e = length_kept least most at (option_map elements (option_and_then as_array found)) ds
    e

-- ---- places of columns

place_known : (test : List ℕ → Bool) (names : List (List ℕ)) (i : ℕ) → position test names ≡ Some i
    → nat_lt i (length names) ≡ true
place_known test names i e = lt-ltb i (length names) (position-Some test names i [] e).0

new_place_kept : (at : Place) (before : List ℕ) (found : Option ℕ) (i : ℕ) → new_place at before found ≡ Ok i
    → (found ≡ Some i) × (list_any (λ p. p == i) before ≡ false)
new_place_kept at before None i e = absurd cc
new_place_kept at before (Some n) i e = let test = not_met (list_any (λ p. p == n) before) (Twice at) n i e in
    rw (← test.1) (refl, test.0)

pub listed_kept : (at : Place) (before : List ℕ) (test : List ℕ → Bool) (names : List (List ℕ)) (i : ℕ)
    → new_place at before (position test names) ≡ Ok i → (nat_lt i (length names) ≡ true)
    × (list_any (λ p. p == i) before ≡ false)
listed_kept at before test names i e = let new = new_place_kept at before (position test names) i e in
    (place_known test names i new.0, new.1)

-- ---- elements

module _ {A : Type 0} (read : List A → Data → Reading A) where
  -- no more are read than there are
  pub no_more : (values : List Value) (result : Reading (List A)) (most : ℕ)
      → Yields (each read [] (map view values)) result → length values ≤ most → IfOk result (λ xs. length xs ≤ most)
  no_more values (Ok xs) most gives le = omega
      (arith, each_counts read (map view values) xs gives, length-map values view, le)
  no_more values (Err fault) most gives le = tt

  -- what each element keeps, all keep
  pub all_keep : (P : List A → Type 0) (step : (before : List A) (d : Data) (x : A) → P before → read before d ≡ Ok x
      → P (before ++ x ∷ []))
      (before : List A) (ds : List Data) (xs : List A) → P before → each read before ds ≡ Ok xs → P xs
  all_keep P step before ds xs p e = each_keeps read (λ d. true) P (λ before d x p good e. step before d x p e) before
      ds xs (all_pass ds) p e
