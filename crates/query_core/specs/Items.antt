-- What the used columns of a query keep, and the lists of columns that belong to its tables.
use Rattle.std.specs.Prelude.{ℕ, Bool, false, List, ◌&&◌, ◌==◌, length, nat_lt, nat_le, bytes_eq, slice_get, IsTrue}
use Rattle.std.specs.Prelude.{option_to_list}
use Rattle.std.specs.List.{list_all, enumerate_from}
use Rattle.std.specs.Option.{option_map_or}
use Rattle.orca_base.specs.Name.{has_name_form}
use Rattle.query_core.specs.Differ.{all_differ, numbers_differ}
use Rattle.query_core.specs.Histogram.{may_be_histogram}
use Rattle.query_core.specs.declared.table.Item.{Item}
use Rattle.query_core.specs.declared.table.QueryTable.{QueryTable}

-- the two are columns of one table under one name
abbrev pub same_column : Item → Item → Bool
same_column item other = (item.table == other.table) && bytes_eq item.name other.name

-- the number is that of an item of the table
abbrev pub is_column_of : List Item → ℕ → ℕ → Bool
is_column_of items table number = option_map_or (λ item. item.table == table) (slice_get items number) false

-- 1 to 8 columns of the table, none of them twice
abbrev pub is_column_list : List Item → ℕ → List ℕ → Bool
is_column_list items table columns =
    nat_le 1 (length columns) && nat_le (length columns) 8 && list_all (is_column_of items table)
    columns && numbers_differ columns

-- the table's hashed list, if any, and each of its at most 16 indexes is a list of its columns
abbrev pub has_own_lists : List Item → ℕ → QueryTable → Bool
has_own_lists items place table =
    nat_le (length table.indexes) 16 && list_all (is_column_list items place) (option_to_list table.hashed) && list_all
    (is_column_list items place) table.indexes

-- each item is a column of one of the tables, named as columns are, with at most 10^12 distinct values and a histogram
-- only within its limits
pub record AreItems (tables : List QueryTable) (items : List Item) : Type 0 where
  pub placed : IsTrue (list_all (λ item. nat_lt item.table (length tables)) items)
  pub named : IsTrue (list_all (λ item. has_name_form item.name) items)
  pub apart : IsTrue (all_differ same_column items)
  pub values_fit : IsTrue (list_all (λ item. nat_le item.ndv 1000000000000) items)
  pub histograms : IsTrue (list_all (λ item. may_be_histogram item.histogram) items)
  pub lists : IsTrue (list_all (λ t. has_own_lists items t.0 t.1) (enumerate_from 0 tables))
