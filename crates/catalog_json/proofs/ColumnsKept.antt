-- The columns of a table that is read keep the limits, and their names differ.
use Rattle.std.proofs.Common.{◌≡◌, All, ℕ, true, List, [], ◌∷◌, ◌++◌, length, map, codes, Option, Ok}
use Rattle.std.proofs.Common.{refl, subst}
use Rattle.std.specs.Str.{bytes_eq}
use Rattle.std.specs.Cmp.Lexicographic.{nat_list_eq_equiv}
use Rattle.std.proofs.lemmas.List.{map_push}
use Rattle.std.proofs.lemmas.List.Elements.{All-nil, All-push}
use Rattle.query_core.specs.declared.catalog.ColumnInfo.{ColumnInfo}
use Rattle.serde_json.specs.Data.{Data}
use Rattle.serde_json.specs.Find.{get}
use Rattle.catalog_json.specs.declared.version.CatalogVersion.{CatalogVersion}
use Rattle.catalog_json.specs.declared.place.Place.TheVariants as places
use Rattle.query_core.specs.Histogram.{trillion, within}
use Rattle.query_core.specs.Differ.{all_differ}
use Rattle.query_core.specs.Catalog.{IsColumn}
use Rattle.catalog_json.specs.Walk.{column_at, columns_at, histogram_by, list_at, new_name_at, number_at, object_at}
use Rattle.query_core.proofs.Apart.{differ_push}
use Rattle.orca_base.proofs.Checked.{bind_ok, each_counts, ok_is}
use Rattle.catalog_json.proofs.HistogramsKept.{below, histogram_by_kept}
use Rattle.catalog_json.proofs.Steps.{all_keep, list_kept, new_name_kept, number_kept}

-- columns as those of a table, as far as they are read
pub record AreColumns (columns : List ColumnInfo) : Type 0 where
  pub all_are : All IsColumn columns
  pub differ : all_differ bytes_eq (map (λ c. c.name) columns) ≡ true

column_kept : (version : CatalogVersion) (t : ℕ) (before : List ColumnInfo) (d : Data) (column : ColumnInfo)
    → AreColumns before → column_at version t before d ≡ Ok column → AreColumns (before ++ column ∷ [])
unfolding column_at
column_kept version t before d column so_far e =
    let at = length before in
    let object = bind_ok (object_at (places.Column t at) d) _ column e in
    let name = bind_ok (new_name_at (places.ColumnName t at) (map (λ c. c.name) before)
    (get (codes "name") object.0)) _ column object.2 in
    let ndv = bind_ok (number_at 0 trillion (places.Ndv t at) (get (codes "ndv") object.0)) _ column name.2 in
    let histogram = bind_ok (histogram_by version t at (get (codes "histogram") object.0)) _ column ndv.2 in
    let new = new_name_kept (places.ColumnName t at) (map (λ c. c.name) before)
    (get (codes "name") object.0) name.0 name.1 in
    let made : ColumnInfo = record { name = name.0; ndv = ndv.0; histogram = histogram.0 } in
    subst (λ (c : ColumnInfo). AreColumns (before ++ c ∷ [])) {x = made} (ok_is made column histogram.2) (record {
      all_are = All-push IsColumn before made so_far.all_are
          (record {
            named = new.0;
            values = below trillion ndv.0
                (number_kept 0 trillion (places.Ndv t at) (get (codes "ndv") object.0) ndv.0 ndv.1);
            histogram = histogram_by_kept version t at (get (codes "histogram") object.0) histogram.0 histogram.1;
          });
      differ = rw (map_push (λ (c : ColumnInfo). c.name) before made)
          (differ_push bytes_eq nat_list_eq_equiv.symm (map (λ c. c.name) before) name.0 so_far.differ new.1);
    })

-- the columns of a table
pub record AreAllColumns (columns : List ColumnInfo) : Type 0 where
  pub width : within 1 1000 (length columns) ≡ true
  pub are : AreColumns columns

pub columns_kept : (version : CatalogVersion) (t : ℕ) (found : Option Data) (columns : List ColumnInfo)
    → columns_at version t found ≡ Ok columns
    → AreAllColumns columns
unfolding columns_at
columns_kept version t found columns e =
    let ds = bind_ok (list_at 1 1000 (places.Columns t) found) _ columns e in
    record {
      width = rw (each_counts (column_at version t) ds.0 columns ds.2)
          (list_kept 1 1000 (places.Columns t) found ds.0 ds.1);
      are = all_keep (column_at version t) AreColumns (column_kept version t) [] ds.0 columns
          (record { all_are = All-nil IsColumn; differ = refl }) ds.2;
    }
