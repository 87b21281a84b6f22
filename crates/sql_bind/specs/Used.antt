-- The columns that a query uses, by table and then by place in the catalogue.
use Rattle.std.specs.Prelude.{ℕ, List, [], ◌∷◌, ◌++◌, ◌+◌, option_to_list, map, flat_map, if◌then◌else◌}
use Rattle.query_core.specs.declared.catalog.ColumnInfo.{ColumnInfo}
use Rattle.query_core.specs.declared.catalog.Placing.{Placing}
use Rattle.query_core.specs.declared.catalog.Placing.TheVariants.{Hashed, Random, Replicated}
use Rattle.sql_bind.specs.declared.columns.Column.{Column}
use Rattle.sql_bind.specs.declared.select_list.What.{What}
use Rattle.sql_bind.specs.declared.select_list.What.TheVariants as whats
use Rattle.sql_bind.specs.declared.select_list.Chosen.{Chosen}
use Rattle.sql_bind.specs.declared.conditions.Side.{Side}
use Rattle.sql_bind.specs.declared.conditions.Side.TheVariants as sides
use Rattle.sql_bind.specs.declared.conditions.Compared.{Compared}
use Rattle.sql_bind.specs.declared.sort_keys.Target.{Target}
use Rattle.sql_bind.specs.declared.sort_keys.Target.TheVariants as targets
use Rattle.sql_bind.specs.declared.sort_keys.SortKey.{SortKey}
use Rattle.sql_bind.specs.declared.parts.Parts.{Parts}
use Rattle.sql_bind.specs.Scope.{FromTable}
use Rattle.sql_bind.specs.Columns.{column, is_among}

-- ---- the columns that the query names

abbrev pub in_what : What → List Column
in_what (whats.Column at c) = c ∷ []
in_what (whats.Aggregate number func arg) = option_to_list arg

abbrev pub in_side : Side → List Column
in_side (sides.Column c) = c ∷ []
in_side (sides.Int value) = []
in_side (sides.Str text) = []

abbrev pub in_compared : Compared → List Column
in_compared compared = compared.left ∷ in_side compared.right

abbrev pub in_target : Target → List Column
in_target (targets.Column c) = c ∷ []
in_target (targets.Aggregate number) = []

-- the columns of the select list, of WHERE and of ORDER BY
abbrev pub named_by_chosen : List Chosen → List Column
named_by_chosen chosen = flat_map (λ c. in_what c.what) chosen

abbrev pub named_by_compared : List Compared → List Column
named_by_compared compared = flat_map in_compared compared

abbrev pub named_by_keys : List SortKey → List Column
named_by_keys keys = flat_map (λ key. in_target key.target) keys

-- all of these, and the columns of GROUP BY
abbrev pub named_by : Parts → List Column
named_by parts = ((named_by_chosen parts.chosen ++ named_by_compared parts.compared) ++ parts.group) ++ named_by_keys
    parts.keys

-- ---- the columns in the lists of the tables

-- these places of a table
abbrev pub places_of : ℕ → List ℕ → List Column
places_of table places = map (column table) places

-- the columns of its distribution
abbrev pub placed_by : ℕ → Placing → List Column
placed_by table (Hashed places) = places_of table places
placed_by table Random = []
placed_by table Replicated = []

-- the columns of its indexes
abbrev pub indexed_by : ℕ → List (List ℕ) → List Column
indexed_by table indexes = flat_map (places_of table) indexes

-- the columns in the lists of the tables, which begin at this place of FROM
abbrev pub listed_from : ℕ → List FromTable → List Column
listed_from table [] = []
listed_from table (t ∷ ts) = (placed_by table t.info.placing ++ indexed_by table t.info.indexes) ++ listed_from
    (table + 1) ts

-- ---- the used columns

-- a column, and what the catalogue says of it
pub record UsedColumn : Type 0 where
  pub which : Column
  pub info : ColumnInfo

-- the columns that the query names, and those in the lists of its tables
abbrev pub wanted_by : Parts → List Column
wanted_by parts = named_by parts ++ listed_from 0 parts.scope

-- those of a table's columns that are wanted, in their order
abbrev pub used_in : List Column → ℕ → ℕ → List ColumnInfo → List UsedColumn
used_in wanted table place [] = []
used_in wanted table place (c ∷ cs) =
    if is_among wanted (column table place) then record { which = column table place; info = c } ∷ used_in wanted table
    (place + 1) cs else used_in wanted table (place + 1) cs

-- those of the tables' columns that are wanted, table by table
abbrev pub used_from : List Column → ℕ → List FromTable → List UsedColumn
used_from wanted table [] = []
used_from wanted table (t ∷ ts) = used_in wanted table 0 t.info.columns ++ used_from wanted (table + 1) ts

-- the used columns of a query
unfoldable pub used_by : Parts → List UsedColumn
used_by parts = used_from (wanted_by parts) 0 parts.scope
