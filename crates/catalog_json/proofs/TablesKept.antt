-- A catalogue that is read keeps the limits, has names that differ, and lists its own columns.
use Rattle.std.proofs.Common.{◌≡◌, All, ℕ, ◌≤◌, true, List, [], ◌∷◌, ◌++◌, length, map, codes, Option, Ok, refl, subst}
use Rattle.std.specs.Str.{bytes_eq}
use Rattle.std.specs.Cmp.Lexicographic.{nat_list_eq_equiv}
use Rattle.std.proofs.lemmas.List.{length-map, map_push}
use Rattle.std.proofs.lemmas.List.Elements.{All-nil, All-push}
use Rattle.query_core.specs.declared.catalog.ColumnInfo.{ColumnInfo}
use Rattle.query_core.specs.declared.catalog.Placing.{Placing}
use Rattle.query_core.specs.declared.catalog.TableInfo.{TableInfo}
use Rattle.query_core.specs.declared.catalog.Catalog.{Catalog}
use Rattle.serde_json.specs.Data.{Data}
use Rattle.serde_json.specs.Find.{get}
use Rattle.catalog_json.specs.declared.version.CatalogVersion.{CatalogVersion}
use Rattle.catalog_json.specs.declared.place.Place.TheVariants as places
use Rattle.query_core.specs.Histogram.{trillion}
use Rattle.query_core.specs.Differ.{all_differ}
use Rattle.query_core.specs.Catalog.{is_catalog_name, IsPlacing, IsTable, IsCatalog}
use Rattle.catalog_json.specs.Walk.{catalog_at, columns_at, indexes_at, list_at, lists_at, named_table_at}
use Rattle.catalog_json.specs.Walk.{new_name_at, number_at, object_at, placing_at, table_at, tables_at, version_at}
use Rattle.query_core.proofs.Apart.{differ_push}
use Rattle.orca_base.proofs.Checked.{bind_ok, each_counts, ok_is}
use Rattle.catalog_json.proofs.Steps.{all_keep, list_kept, new_name_kept, number_kept}
use Rattle.catalog_json.proofs.ColumnsKept.{columns_kept}
use Rattle.catalog_json.proofs.HistogramsKept.{below}
use Rattle.catalog_json.proofs.ListsKept.{AreIndexes, indexes_kept, placing_kept}

-- tables as those of a catalogue, as far as they are read
record AreTables (tables : List TableInfo) : Type 0 where
  all_are : All IsTable tables
  differ : all_differ bytes_eq (map (λ t. t.name) tables) ≡ true

lists_kept : (version : CatalogVersion) (t : ℕ) (names : List (List ℕ)) (d : Data) (lists : Placing × List (List ℕ))
    → lists_at version t names d ≡ Ok lists → IsPlacing (length names) lists.0 × AreIndexes (length names) lists.1
unfolding lists_at
lists_kept version t names d lists e =
    let placing = bind_ok (placing_at version t names (get (codes "distribution") d)) _ lists e in
    let indexes = bind_ok (indexes_at t names (get (codes "indexes") d)) _ lists placing.2 in
    subst (λ (lists : Placing × List (List ℕ)). IsPlacing (length names) lists.0 × AreIndexes (length names) lists.1)
    (ok_is (placing.0, indexes.0) lists indexes.2) (
      placing_kept version t names (get (codes "distribution") d) placing.0 placing.1,
      indexes_kept t names
          (get (codes "indexes") d) indexes.0 indexes.1,
    )

-- a table that got a name
record IsTableNamed (name : List ℕ) (table : TableInfo) : Type 0 where
  is : IsTable table
  called : table.name ≡ name

named_table_kept : (version : CatalogVersion) (t : ℕ) (name : List ℕ) (d : Data) (table : TableInfo)
    → is_catalog_name name ≡ true → named_table_at version t name d ≡ Ok table → IsTableNamed name table
unfolding named_table_at
named_table_kept version t name d table named e =
    let texts = λ (columns : List ColumnInfo). map (λ c. c.name) columns in
    let rows = bind_ok (number_at 0 trillion (places.Rows t) (get (codes "rows") d)) _ table e in
    let columns = bind_ok (columns_at version t (get (codes "columns") d)) _ table rows.2 in
    let lists = bind_ok (lists_at version t (texts columns.0) d) _ table columns.2 in
    let width : length (texts columns.0) ≡ length columns.0 = length-map columns.0 (λ c. c.name) in
    let are = columns_kept version t (get (codes "columns") d) columns.0 columns.1 in
    let listed = rw width at (lists_kept version t (texts columns.0) d lists.0 lists.1) in
    let made : TableInfo = record {
      name = name;
      rows = rows.0;
      placing = lists.0.0;
      columns = columns.0;
      indexes = lists.0.1;
    } in
    subst (IsTableNamed name) {x = made} (ok_is made table lists.2) (record {
      is = record {
        named = named;
        counted = below trillion rows.0 (number_kept 0 trillion (places.Rows t) (get (codes "rows") d) rows.0 rows.1);
        width = are.width;
        each_column = are.are.all_are;
        differ = are.are.differ;
        placed = listed.0;
        index_count = listed.1.count;
        each_index = listed.1.all_are;
      };
      called = refl;
    })

table_kept : (version : CatalogVersion) (before : List TableInfo) (d : Data) (table : TableInfo) → AreTables before
    → table_at version before d ≡ Ok table
    → AreTables (before ++ table ∷ [])
unfolding table_at
table_kept version before d table so_far e =
    let t = length before in
    let names = map (λ t. t.name) before in
    let object = bind_ok (object_at (places.Table t) d) _ table e in
    let name = bind_ok (new_name_at (places.TableName t) names (get (codes "name") object.0)) _ table object.2 in
    let new = new_name_kept (places.TableName t) names (get (codes "name") object.0) name.0 name.1 in
    let kept = named_table_kept version t name.0 object.0 table new.0 name.2 in
    record {
      all_are = All-push IsTable before table so_far.all_are kept.is;
      differ = rw (map_push (λ (x : TableInfo). x.name) before table, kept.called)
          (differ_push bytes_eq nat_list_eq_equiv.symm names name.0 so_far.differ new.1);
    }

-- the tables of a catalogue
record AreAllTables (tables : List TableInfo) : Type 0 where
  count : length tables ≤ 1000
  are : AreTables tables

tables_kept : (version : CatalogVersion) (found : Option Data) (tables : List TableInfo)
    → tables_at version found ≡ Ok tables → AreAllTables tables
unfolding tables_at
tables_kept version found tables e =
    let ds = bind_ok (list_at 0 1000 places.Tables found) _ tables e in
    record {
      count = below 1000 (length tables) (rw (each_counts (table_at version) ds.0 tables ds.2)
          (list_kept 0 1000 places.Tables found ds.0 ds.1));
      are = all_keep (table_at version) AreTables (table_kept version) [] ds.0 tables
          (record { all_are = All-nil IsTable; differ = refl }) ds.2;
    }

pub catalog_kept : (d : Data) (catalog : Catalog) → catalog_at d ≡ Ok catalog → IsCatalog catalog
unfolding catalog_at
catalog_kept d catalog e =
    let object = bind_ok (object_at places.Whole d) _ catalog e in
    let o = object.0 in
    let version = bind_ok (version_at (get (codes "version") o)) _ catalog object.2 in
    let segments = bind_ok (number_at 1 1000 places.Segments (get (codes "segments") o)) _ catalog version.2 in
    let tables = bind_ok (tables_at version.0 (get (codes "tables") o)) _ catalog segments.2 in
    let kept = tables_kept version.0 (get (codes "tables") o) tables.0 tables.1 in
    subst IsCatalog (ok_is _ catalog tables.2) (record {
      segment_count = number_kept 1 1000 places.Segments (get (codes "segments") o) segments.0 segments.1;
      table_count = kept.count;
      each_table = kept.are.all_are;
      differ = kept.are.differ;
    })
