-- A list of columns that is read has 1 to 8 different places among the table's columns.
use Rattle.std.proofs.Common.{◌≡◌, All, ◌==◌, ℕ, ◌≤◌, Bool, true, false, cond, List, [], ◌∷◌, ◌++◌, length, nat_lt}
use Rattle.std.proofs.Common.{codes}
use Rattle.std.proofs.Common.{Option, Some, None, option_and_then, Ok, Err, refl, ◌∙◌, subst, arith}
use Rattle.std.specs.List.{list_all}
use Rattle.std.specs.Str.{bytes_eq}
use Rattle.std.specs.Cmp.{nat_eq_equiv}
use Rattle.std.proofs.lemmas.List.Folds.{list_all-append}
use Rattle.std.proofs.lemmas.List.Elements.{All-nil, All-push}
use Rattle.query_core.specs.declared.catalog.Placing.{Placing}
use Rattle.query_core.specs.declared.catalog.Placing.TheVariants.{Hashed, Random, Replicated}
use Rattle.serde_json.specs.Data.{Data}
use Rattle.serde_json.specs.Find.{as_str}
use Rattle.catalog_json.specs.declared.place.NameList.{NameList}
use Rattle.catalog_json.specs.declared.place.NameList.TheVariants.{Distribution, Index}
use Rattle.catalog_json.specs.declared.place.Place.{Place}
use Rattle.catalog_json.specs.declared.place.Place.TheVariants as places
use Rattle.catalog_json.specs.declared.version.CatalogVersion.{CatalogVersion}
use Rattle.catalog_json.specs.declared.version.CatalogVersion.TheVariants.{One, Two}
use Rattle.catalog_json.specs.declared.fault.Fault.{Fault}
use Rattle.catalog_json.specs.declared.fault.Fault.TheVariants.{Shape}
use Rattle.query_core.specs.Differ.{all_differ}
use Rattle.query_core.specs.Catalog.{IsColumnList, IsPlacing}
use Rattle.catalog_json.specs.Walk.{Reading, index_at, indexes_at, list_at, listed_at, name_at}
use Rattle.catalog_json.specs.Walk.{named_placing, places_at, placing_at, placing_by, replicated_at, seen}
use Rattle.query_core.proofs.Apart.{differ_push}
use Rattle.orca_base.proofs.Checked.{bind_ok, each_counts, met, ok_is}
use Rattle.catalog_json.proofs.Steps.{all_keep, list_kept, listed_kept}
use Rattle.catalog_json.proofs.HistogramsKept.{below}

-- places as those of a list, as far as they are read
record ArePlaces (columns : ℕ) (places : List ℕ) : Type 0 where
  known : list_all (λ p. nat_lt p columns) places ≡ true
  differ : all_differ (λ p q. q == p) places ≡ true

listed_place_kept : (list : NameList) (names : List (List ℕ)) (before : List ℕ) (d : Data) (i : ℕ)
    → ArePlaces (length names) before → listed_at list names before d ≡ Ok i
    → ArePlaces (length names) (before ++ i ∷ [])
unfolding listed_at
listed_place_kept list names before d i so_far e =
    let at = places.Listed list (length before) in
    let name = bind_ok (name_at at (Some d)) _ i e in
    let new = listed_kept at before (bytes_eq name.0) names i name.2 in
    record {
      known = list_all-append (λ p. nat_lt p (length names)) before (i ∷ []) ∙ rw (so_far.known, new.0) refl;
      differ = differ_push (λ p q. q == p) (λ p q. nat_eq_equiv.symm q p) before i so_far.differ new.1;
    }

pub places_kept : (list : NameList) (names : List (List ℕ)) (found : Option Data) (places : List ℕ)
    → places_at list names found ≡ Ok places → IsColumnList (length names) places
unfolding places_at
places_kept list names found listed e =
    let ds = bind_ok (list_at 1 8 (places.NamesOf list) found) _ listed e in
    let are = all_keep (listed_at list names) (ArePlaces (length names)) (listed_place_kept list names) [] ds.0 listed
    (record { known = refl; differ = refl }) ds.2 in
    record {
      counted = rw (each_counts (listed_at list names) ds.0 listed ds.2)
          (list_kept 1 8 (places.NamesOf list) found ds.0 ds.1);
      known = are.known;
      differ = are.differ;
    }

-- ---- where rows lie

replicated_kept : (version : CatalogVersion) (at : Place) (text : List ℕ) (columns : ℕ) (placing : Placing)
    → replicated_at version at text ≡ Ok placing → IsPlacing columns placing
replicated_kept One at text columns placing e = absurd cc
replicated_kept Two at text columns placing e =
    let test = met (bytes_eq text (codes "replicated")) (Shape at) Replicated placing e in
    subst (IsPlacing columns) test.1 tt

named_kept : (version : CatalogVersion) (at : Place) (text : List ℕ) (columns : ℕ) (placing : Placing)
    → named_placing version at text ≡ Ok placing → IsPlacing columns placing
named_kept version at text columns placing = by (bytes_eq text (codes "random"))
  where
    by : (b : Bool) → cond b (Ok Random) (replicated_at version at text) ≡ Ok placing → IsPlacing columns placing
    by true e = subst (IsPlacing columns) (ok_is {E = Fault} Random placing e) tt
    by false e = replicated_kept version at text columns placing e

hashed_kept : (columns : ℕ) (read : Reading (List ℕ)) (placing : Placing)
    → ((listed : List ℕ) → read ≡ Ok listed → IsColumnList columns listed) → seen Hashed read ≡ Ok placing
    → IsPlacing columns placing
hashed_kept columns (Ok listed) placing kept e =
    subst (IsPlacing columns) (ok_is (Hashed listed) placing e) (kept listed refl)
hashed_kept columns (Err fault) placing kept e = absurd cc

placing_by_kept : (version : CatalogVersion) (t : ℕ) (names : List (List ℕ)) (found : Option Data)
    (text : Option (List ℕ)) (placing : Placing) → placing_by version t names found text ≡ Ok placing
    → IsPlacing (length names) placing
unfolding placing_by
placing_by_kept version t names found (Some text) placing e =
    named_kept version (places.NamesOf (Distribution t)) text (length names) placing e
placing_by_kept version t names found None placing e =
    hashed_kept (length names) (places_at (Distribution t) names found) placing
    (places_kept (Distribution t) names found) e

pub placing_kept : (version : CatalogVersion) (t : ℕ) (names : List (List ℕ)) (found : Option Data) (placing : Placing)
    → placing_at version t names found ≡ Ok placing → IsPlacing (length names) placing
placing_kept version t names found placing e =
    placing_by_kept version t names found (option_and_then as_str found) placing e

-- ---- indexes

-- the indexes of a table
pub record AreIndexes (columns : ℕ) (indexes : List (List ℕ)) : Type 0 where
  pub count : length indexes ≤ 16
  pub all_are : All (IsColumnList columns) indexes

pub indexes_kept : (t : ℕ) (names : List (List ℕ)) (found : Option Data) (indexes : List (List ℕ))
    → indexes_at t names found ≡ Ok indexes → AreIndexes (length names) indexes
unfolding indexes_at
indexes_kept t names None indexes e = subst (AreIndexes (length names)) (ok_is [] indexes e)
    (record { count = omega arith; all_are = All-nil (IsColumnList (length names)) })
indexes_kept t names (Some d) indexes e =
    let ds = bind_ok (list_at 0 16 (places.Indexes t) (Some d)) _ indexes e in
    let one = λ (before : List (List ℕ)) (x : Data) (index : List ℕ) (are : All (IsColumnList (length names)) before)
    (read : index_at t names before x ≡ Ok index).
    All-push (IsColumnList (length names)) before index are
    (places_kept (Index t (length before)) names (Some x) index read) in
    record {
      count = below 16 (length indexes) (rw (each_counts (index_at t names) ds.0 indexes ds.2)
          (list_kept 0 16 (places.Indexes t) (Some d) ds.0 ds.1));
      all_are = all_keep (index_at t names) (All (IsColumnList (length names))) one [] ds.0 indexes
          (All-nil (IsColumnList (length names))) ds.2;
    }
