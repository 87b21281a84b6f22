-- A number, a new name and a list are read as they are.
use Rattle.std.proofs.Common.{◌≡◌, ℕ, ◌^◌, ◌≤◌, ℤ, pos, negsuc, SFits, w64}
use Rattle.std.proofs.Common.{true, false, List, map, length}
use Rattle.std.proofs.Common.{Some, Ok, nat_le, refl, arith}
use Rattle.std.proofs.lemmas.Bool.{le-leb, lt-ltb, and_from}
use Rattle.std.specs.List.{list_any}
use Rattle.std.specs.Str.{bytes_eq}
use Rattle.std.proofs.lemmas.List.{length-map}
use Rattle.serde_json.specs.Data.{Data, string, number}
use Rattle.query_core.specs.Catalog.{is_catalog_name}
use Rattle.query_core.specs.Histogram.{within}
use Rattle.catalog_json.specs.declared.place.Place.{Place}
use Rattle.catalog_json.specs.Walk.{signed_at, list_at, new_name_at}
use Rattle.catalog_json.proofs.Elements.{elements_items_of}
use Rattle.catalog_text.proofs.Values.{list_data, signed}

pub at_most : (n most : ℕ) → n ≤ most → within 0 most n ≡ true
at_most n most h = and_from (nat_le 0 n) (nat_le n most) (le-leb 0 n (omega arith)) (le-leb n most h)

pub signed_read : (at : Place) (z : ℤ) → SFits w64 z → signed_at at (Some (number (signed z))) ≡ Ok z
signed_read at (pos n) fits = rw (lt-ltb n (2 ^ 63) (omega (arith, fits.sfits))) refl
signed_read at (negsuc n) fits = refl

pub new_name : (at : Place) (before : List (List ℕ)) (text : List ℕ) → is_catalog_name text ≡ true
    → list_any (bytes_eq text) before ≡ false → new_name_at at before (Some (string text)) ≡ Ok text
unfolding new_name_at
new_name at before text named new = rw (named, new) refl

pub list_read : {X : Type 0} (form : X → Data) (least most : ℕ) (at : Place) (xs : List X)
    → within least most (length xs) ≡ true → list_at least most at (Some (list_data form xs)) ≡ Ok (map form xs)
list_read form least most at xs h = rw (elements_items_of (map form xs), length-map xs form, h) refl
