-- What every catalogue keeps: its limits, its names, and lists of its own columns.
use Rattle.std.specs.Prelude.{ℕ, Bool, ◌≤◌, ◌==◌, ◌&&◌, List, All, length, map, nat_le, nat_lt, IsTrue, ⊤}
use Rattle.std.specs.List.{list_all}
use Rattle.orca_base.specs.Name.{has_name_form}
use Rattle.query_core.specs.Differ.{all_differ, texts_differ}
use Rattle.query_core.specs.Histogram.{trillion, within, may_be_histogram}
use Rattle.query_core.specs.declared.catalog.ColumnInfo.{ColumnInfo}
use Rattle.query_core.specs.declared.catalog.Placing.{Placing}
use Rattle.query_core.specs.declared.catalog.Placing.TheVariants.{Hashed, Random, Replicated}
use Rattle.query_core.specs.declared.catalog.TableInfo.{TableInfo}
use Rattle.query_core.specs.declared.catalog.Catalog.{Catalog}

-- the form of a name, in at most 64 bytes
abbrev pub is_catalog_name : List ℕ → Bool
is_catalog_name text = has_name_form text && nat_le (length text) 64

-- a column has a name, at most a trillion distinct values, and a histogram only within its limits
pub record IsColumn (column : ColumnInfo) : Type 0 where
  pub named : IsTrue (is_catalog_name column.name)
  pub values : column.ndv ≤ trillion
  pub histogram : IsTrue (may_be_histogram column.histogram)

-- 1 to 8 places of columns, among this many columns, and none twice
pub record IsColumnList (columns : ℕ) (places : List ℕ) : Type 0 where
  pub counted : IsTrue (within 1 8 (length places))
  pub known : IsTrue (list_all (λ p. nat_lt p columns) places)
  pub differ : IsTrue (all_differ (λ p q. q == p) places)

-- rows are hashed on a list of columns, or lie anywhere, or all of them lie on each segment
abbrev pub IsPlacing : ℕ → Placing → Type 0
IsPlacing columns (Hashed places) = IsColumnList columns places
IsPlacing columns Random = ⊤
IsPlacing columns Replicated = ⊤

-- a table has a name, 1 to 1000 columns of different names, and lists of these columns
pub record IsTable (table : TableInfo) : Type 0 where
  pub named : IsTrue (is_catalog_name table.name)
  pub counted : table.rows ≤ trillion
  pub width : IsTrue (within 1 1000 (length table.columns))
  pub each_column : All IsColumn table.columns
  pub differ : IsTrue (texts_differ (map (λ c. c.name) table.columns))
  pub placed : IsPlacing (length table.columns) table.placing
  pub index_count : length table.indexes ≤ 16
  pub each_index : All (IsColumnList (length table.columns)) table.indexes

-- 1 to 1000 segments, and at most 1000 tables of different names
pub record IsCatalog (catalog : Catalog) : Type 0 where
  pub segment_count : IsTrue (within 1 1000 catalog.segments)
  pub table_count : length catalog.tables ≤ 1000
  pub each_table : All IsTable catalog.tables
  pub differ : IsTrue (texts_differ (map (λ t. t.name) catalog.tables))
