-- What the tables of a query keep.
use Rattle.std.specs.Prelude.{Bool, ◌≤◌, ◌&&◌, not, List, map, length, nat_le, is_some, IsTrue}
use Rattle.std.specs.List.{list_all}
use Rattle.orca_base.specs.Name.{has_name_form}
use Rattle.query_core.specs.Differ.{texts_differ}
use Rattle.query_core.specs.declared.table.QueryTable.{QueryTable}

-- where all rows lie on each segment, no hash places them
abbrev pub is_placed_once : QueryTable → Bool
is_placed_once table = not (table.replicated && is_some table.hashed)

-- 1 to 10 tables, each of at most 10^12 rows and placed in one way, under aliases that have the form of a name and
-- differ
pub record AreTables (tables : List QueryTable) : Type 0 where
  pub some : 1 ≤ length tables
  pub few : length tables ≤ 10
  pub named : IsTrue (list_all (λ table. has_name_form table.alias) tables)
  pub apart : IsTrue (texts_differ (map (λ table. table.alias) tables))
  pub rows_fit : IsTrue (list_all (λ table. nat_le table.rows 1000000000000) tables)
  pub placed : IsTrue (list_all is_placed_once tables)
