-- The walk over the value of a catalogue gives the catalogue.
use Rattle.std.proofs.Common.{◌≡◌, ℕ, ◌==◌, ◌<◌, ◌≤◌}
use Rattle.std.proofs.Common.{true, false, not, Option, is_some, List, [], ◌∷◌, ◌++◌, map, length}
use Rattle.std.proofs.Common.{Some, Ok, nat_lt, refl, sym, subst, arith, None}
use Rattle.std.proofs.lemmas.Bool.{ltb-true}
use Rattle.std.specs.List.{All, list_any, list_all}
use Rattle.std.specs.Str.{bytes_eq}
use Rattle.std.proofs.lemmas.List.{get_or-map, length-map}
use Rattle.serde_json.specs.Data.{string, number, unsigned, object}
use Rattle.query_core.specs.declared.histogram.Histogram.{Histogram}
use Rattle.query_core.specs.declared.catalog.ColumnInfo.{ColumnInfo}
use Rattle.query_core.specs.declared.catalog.Placing.{Placing}
use Rattle.query_core.specs.declared.catalog.Placing.TheVariants.{Hashed, Random, Replicated}
use Rattle.query_core.specs.declared.catalog.TableInfo.{TableInfo}
use Rattle.query_core.specs.declared.catalog.Catalog.{Catalog}
use Rattle.query_core.specs.Catalog.{is_catalog_name, IsColumn, IsColumnList, IsPlacing, IsTable}
use Rattle.query_core.specs.Histogram.{trillion, within, may_be_histogram}
use Rattle.query_core.specs.Catalog.{IsCatalog}
use Rattle.query_core.specs.Differ.{all_differ, texts_differ}
use Rattle.catalog_json.specs.declared.place.NameList.{NameList}
use Rattle.catalog_json.specs.declared.place.NameList.TheVariants.{Distribution, Index}
use Rattle.catalog_json.specs.declared.place.Place.TheVariants as places
use Rattle.catalog_json.specs.declared.version.CatalogVersion.{CatalogVersion}
use Rattle.catalog_json.specs.declared.version.CatalogVersion.TheVariants.{One, Two}
use Rattle.catalog_json.specs.Columns.{names_of}
use Rattle.catalog_json.specs.Walk.{new_name_at}
use Rattle.catalog_json.specs.Walk.{column_at, columns_at, listed_at, places_at, placing_at, placing_by, index_at}
use Rattle.catalog_json.specs.Walk.{indexes_at, lists_at, named_table_at, table_at, version_at, tables_at, catalog_at}
use Rattle.catalog_text.specs.Signed.{ColumnFits, HistogramFits, TableFits}
use Rattle.catalog_text.specs.Text.{name_at, can_say, is_plain_placing, is_plain_table, version_number}
use Rattle.catalog_text.proofs.Differ.{new_number, place_of}
use Rattle.catalog_text.proofs.Each.{each_read}
use Rattle.catalog_text.proofs.Values.{list_data, with_histogram}
use Rattle.catalog_text.proofs.Values.{column_members, column_data, places_data, placing_data}
use Rattle.catalog_text.proofs.Values.{table_data, catalog_data}
use Rattle.catalog_text.proofs.Among.{among, new_among, passes_among}
use Rattle.catalog_text.proofs.Histograms.{found_read}
use Rattle.catalog_text.proofs.Said.{Says, says_among, says_both}
use Rattle.catalog_text.proofs.Parts.{at_most, list_read, new_name}

-- ---- columns

module _ (version : CatalogVersion) (t : ℕ) (before : List ColumnInfo) (c : ColumnInfo) (h : IsColumn c)
    (new : list_any (bytes_eq c.name) (map (λ x. x.name) before) ≡ false) where
  ndv_here : within 0 trillion c.ndv ≡ true
  ndv_here = at_most c.ndv trillion h.values

  column_with : (histogram : Option Histogram) → may_be_histogram histogram ≡ true → HistogramFits histogram
      → Says version (not (is_some histogram))
      → column_at version t before (object (with_histogram histogram (column_members c))) ≡ Ok
      (record { name = c.name; ndv = c.ndv; histogram = histogram })
  unfolding column_at
  column_with None is fits said =
      rw (
        new_name (places.ColumnName t (length before)) (map (λ x. x.name) before) c.name h.named new,
        ndv_here,
        found_read version t (length before) None is fits said,
      ) refl
  column_with (Some histogram) is fits said =
      rw (
        new_name (places.ColumnName t (length before)) (map (λ x. x.name) before) c.name h.named new,
        ndv_here,
        found_read version t (length before) (Some histogram) is fits said,
      ) refl

  column_read : ColumnFits c → Says version (not (is_some c.histogram))
      → column_at version t before (column_data c) ≡ Ok c
  column_read fits said = column_with c.histogram h.histogram fits said

columns_read : (version : CatalogVersion) (t : ℕ) (columns : List ColumnInfo)
    → within 1 1000 (length columns) ≡ true → All IsColumn columns → All ColumnFits columns
    → Says version (list_all (λ column. not (is_some column.histogram)) columns)
    → texts_differ (map (λ c. c.name) columns) ≡ true
    → columns_at version t (Some (list_data column_data columns)) ≡ Ok columns
unfolding columns_at
columns_read version t columns width each_column fit said differ =
    rw (list_read column_data 1 1000 (places.Columns t) columns width)
    (each_read (column_at version t) column_data columns (λ before c after e.
    column_read version t before c
    (among IsColumn before c after (subst (λ (cs : List ColumnInfo). All IsColumn cs) e each_column))
    (new_among (λ x. x.name) columns before c after differ e)
    (among ColumnFits before c after (subst (λ (cs : List ColumnInfo). All ColumnFits cs) e fit))
    (says_among version (λ (column : ColumnInfo). not (is_some column.histogram)) columns before c after said e)))

-- ---- lists of columns

module _ (columns : List ColumnInfo) (each_column : All IsColumn columns)
    (differ : texts_differ (names_of columns) ≡ true) where
  name_of_column : (p : ℕ) → p < length columns → is_catalog_name (name_at columns p) ≡ true
  name_of_column p within =
      let d : ColumnInfo = record { name = []; ndv = 0; histogram = None } in
      subst (λ (text : List ℕ). is_catalog_name text ≡ true)
      (sym (get_or-map (λ (c : ColumnInfo). c.name) columns p d [] within)) (each_column p d within).named

  listed_read : (list : NameList) (before : List ℕ) (p : ℕ) → p < length columns → list_any (λ q. q == p) before ≡ false
      → listed_at list (names_of columns) before (string (name_at columns p)) ≡ Ok p
  unfolding listed_at
  listed_read list before p within new =
      let place = place_of (names_of columns) p differ
      (omega (arith, length-map columns (λ (c : ColumnInfo). c.name))) in
      rw (name_of_column p within, place, new) refl

  places_read : (list : NameList) (ps : List ℕ) → IsColumnList (length columns) ps
      → places_at list (names_of columns) (Some (places_data columns ps)) ≡ Ok ps
  unfolding places_at
  places_read list ps h =
      rw (list_read (λ place. string (name_at columns place)) 1 8 (places.NamesOf list) ps h.counted)
      (each_read (listed_at list (names_of columns)) (λ place. string (name_at columns place)) ps (λ before p after e.
      listed_read list before p (known ps before p after e h.known)
      (new_number before p after (subst (λ (qs : List ℕ). all_differ (λ q r. r == q) qs ≡ true) e h.differ))))
    where
      known : (whole before : List ℕ) (p : ℕ) (after : List ℕ) → whole ≡ before ++ p ∷ after
          → list_all (λ q. nat_lt q (length columns)) whole ≡ true → p < length columns
      known whole before p after e all = ltb-true p (length columns)
          (passes_among (λ q. nat_lt q (length columns)) whole before p after all e)

  placing_read : (version : CatalogVersion) (t : ℕ) (placing : Placing) → IsPlacing (length columns) placing
      → Says version (is_plain_placing placing)
      → placing_at version t (names_of columns) (Some (placing_data columns placing)) ≡ Ok placing
  unfolding placing_by
  placing_read version t (Hashed ps) h said = rw (places_read (Distribution t) ps h) refl
  placing_read version t Random h said = refl
  placing_read One t Replicated h said = absurd cc
  placing_read Two t Replicated h said = refl

  index_list : (t : ℕ) (index : List ℕ) (indexes : List (List ℕ)) → length (index ∷ indexes) ≤ 16
      → All (IsColumnList (length columns)) (index ∷ indexes)
      → indexes_at t (names_of columns) (Some (list_data (places_data columns) (index ∷ indexes))) ≡ Ok
      (index ∷ indexes)
  unfolding indexes_at
  index_list t index indexes few each_index =
      rw (list_read (places_data columns) 0 16 (places.Indexes t) (index ∷ indexes) (at_most _ 16 few))
      (each_read (index_at t (names_of columns)) (places_data columns) (index ∷ indexes) (λ before ps after e.
      places_read (Index t (length before)) ps
      (among (IsColumnList (length columns)) before ps after
      (subst (λ (all : List (List ℕ)). All (IsColumnList (length columns)) all) e each_index))))

-- ---- tables

no_indexes : (t : ℕ) (names : List (List ℕ)) → indexes_at t names None ≡ Ok []
unfolding indexes_at
no_indexes t names = refl

module _ (version : CatalogVersion) (before : List TableInfo) (t : TableInfo) (h : IsTable t) (fit : TableFits t)
    (said : Says version (is_plain_table t))
    (new : list_any (bytes_eq t.name) (map (λ x. x.name) before) ≡ false) where
  -- what it says of where rows lie, and of the columns
  said_parts : Says version (is_plain_placing t.placing)
      × Says version (list_all (λ column. not (is_some column.histogram)) t.columns)
  said_parts = says_both version (is_plain_placing t.placing)
      (list_all (λ column. not (is_some column.histogram)) t.columns) said

  names_here : new_name_at (places.TableName (length before)) (map (λ x. x.name) before) (Some (string t.name)) ≡ Ok
      t.name
  names_here = new_name (places.TableName (length before)) (map (λ x. x.name) before) t.name h.named new

  rows_here : within 0 trillion t.rows ≡ true
  rows_here = at_most t.rows trillion h.counted

  columns_here : columns_at version (length before) (Some (list_data column_data t.columns)) ≡ Ok t.columns
  columns_here = columns_read version (length before) t.columns h.width h.each_column fit said_parts.1 h.differ

  placing_here : placing_at version (length before) (names_of t.columns) (Some (placing_data t.columns t.placing)) ≡ Ok
      t.placing
  placing_here = placing_read t.columns h.each_column h.differ version (length before) t.placing h.placed said_parts.0

  table_by : (indexes : List (List ℕ)) → t.indexes ≡ indexes → table_at version before (table_data t) ≡ Ok t
  unfolding table_at named_table_at lists_at
  table_by [] e =
      rw (e, names_here, rows_here, columns_here, placing_here, no_indexes (length before) (names_of t.columns)) refl
  table_by (index ∷ indexes) e =
      let few : length (index ∷ indexes) ≤ 16 = subst (λ (all : List (List ℕ)). length all ≤ 16) e h.index_count in
      let each_index = subst (λ (all : List (List ℕ)). All (IsColumnList (length t.columns)) all) e h.each_index in
      rw (
        e,
        names_here,
        rows_here,
        columns_here,
        placing_here,
        index_list t.columns h.each_column h.differ (length before) index indexes few each_index,
      ) refl

  table_read : table_at version before (table_data t) ≡ Ok t
  table_read = table_by t.indexes refl

-- ---- the whole

tables_read : (version : CatalogVersion) (tables : List TableInfo) → length tables ≤ 1000 → All IsTable tables
    → All TableFits tables → Says version (list_all is_plain_table tables)
    → texts_differ (map (λ t. t.name) tables) ≡ true
    → tables_at version (Some (list_data table_data tables)) ≡ Ok tables
unfolding tables_at
tables_read version tables few each_table fit said differ =
    rw (list_read table_data 0 1000 places.Tables tables (at_most _ 1000 few))
    (each_read (table_at version) table_data tables (λ before t after e.
    table_read version before t
    (among IsTable before t after (subst (λ (ts : List TableInfo). All IsTable ts) e each_table))
    (among TableFits before t after (subst (λ (ts : List TableInfo). All TableFits ts) e fit))
    (says_among version is_plain_table tables before t after said e)
    (new_among (λ x. x.name) tables before t after differ e)))

version_read : (version : CatalogVersion) → version_at (Some (number (unsigned (version_number version)))) ≡ Ok version
version_read One = refl
version_read Two = refl

said_tables : (version : CatalogVersion) (c : Catalog) → can_say version c ≡ true
    → Says version (list_all is_plain_table c.tables)
said_tables One c said = said
said_tables Two c said = tt

pub catalog_read : (version : CatalogVersion) (c : Catalog) → IsCatalog c → can_say version c ≡ true
    → All TableFits c.tables → catalog_at (catalog_data version c) ≡ Ok c
unfolding catalog_at
catalog_read version c h said fit =
    rw (
      version_read version,
      h.segment_count,
      tables_read version c.tables h.table_count h.each_table fit (said_tables version c said) h.differ,
    ) refl
