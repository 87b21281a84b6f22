-- The query over numbered items.
use Rattle.std.specs.Prelude.{ℕ, Bool, true, false, not, List, [], ◌∷◌, ◌++◌, ◌+◌, ◌==◌, Option, None, Some, map, filter}
use Rattle.std.specs.Prelude.{filter_map, option_map, if◌then◌else◌}
use Rattle.std.specs.List.{list_any}
use Rattle.query_core.specs.declared.catalog.Placing.{Placing}
use Rattle.query_core.specs.declared.catalog.Placing.TheVariants.{Hashed, Random, Replicated}
use Rattle.query_core.specs.declared.table.Item.{Item}
use Rattle.query_core.specs.declared.table.QueryTable.{QueryTable}
use Rattle.query_core.specs.declared.predicate.Pred.{Pred}
use Rattle.query_core.specs.declared.predicate.Operand.{Operand}
use Rattle.query_core.specs.declared.predicate.Operand.TheVariants as operands
use Rattle.query_core.specs.declared.aggregate.Agg.{Agg}
use Rattle.query_core.specs.declared.output.OutItem.{OutItem}
use Rattle.query_core.specs.declared.output.OrderKey.{OrderKey}
use Rattle.sql_bind.specs.declared.columns.Column.{Column}
use Rattle.sql_bind.specs.declared.select_list.What.{What}
use Rattle.sql_bind.specs.declared.select_list.What.TheVariants as whats
use Rattle.sql_bind.specs.declared.select_list.Chosen.{Chosen}
use Rattle.sql_bind.specs.declared.conditions.Side.{Side}
use Rattle.sql_bind.specs.declared.conditions.Side.TheVariants as sides
use Rattle.sql_bind.specs.declared.conditions.Compared.{Compared}
use Rattle.sql_bind.specs.declared.sort_keys.SortKey.{SortKey}
use Rattle.sql_bind.specs.Scope.{FromTable}
use Rattle.sql_bind.specs.SortKeys.{target_of}
use Rattle.sql_bind.specs.Used.{UsedColumn}
use Rattle.sql_bind.specs.Numbers.{column_number, numbers_of, target_number}

-- ---- tables and items

-- the used columns, as items
abbrev pub item_of : UsedColumn → Item
item_of used = record {
  table = used.which.table;
  name = used.info.name;
  ndv = used.info.ndv;
  histogram = used.info.histogram;
}

abbrev pub items_of : List UsedColumn → List Item
items_of used = map item_of used

-- the items by whose hash a table's rows are placed
abbrev pub hashed_of : List UsedColumn → ℕ → Placing → Option (List ℕ)
hashed_of used table (Hashed places) = Some (numbers_of used table places)
hashed_of used table Random = None
hashed_of used table Replicated = None

-- all rows lie on each segment
abbrev pub is_replicated : Placing → Bool
is_replicated (Hashed places) = false
is_replicated Random = false
is_replicated Replicated = true

-- the items of a table's indexes
abbrev pub indexes_of : List UsedColumn → ℕ → List (List ℕ) → List (List ℕ)
indexes_of used table indexes = map (numbers_of used table) indexes

-- a table of FROM
abbrev pub table_of : List UsedColumn → ℕ → FromTable → QueryTable
table_of used table t =
    record {
      alias = t.alias;
      rows = t.info.rows;
      hashed = hashed_of used table t.info.placing;
      replicated = is_replicated t.info.placing;
      indexes = indexes_of used table t.info.indexes;
    }

-- the tables, which begin at this place of FROM
abbrev pub tables_from : List UsedColumn → ℕ → List FromTable → List QueryTable
tables_from used table [] = []
tables_from used table (t ∷ ts) = table_of used table t ∷ tables_from used (table + 1) ts

-- ---- predicates

abbrev pub operand_of : List UsedColumn → Side → Operand
operand_of used (sides.Column c) = operands.Item (column_number used c)
operand_of used (sides.Int value) = operands.Int value
operand_of used (sides.Str text) = operands.Str text

abbrev pub pred_of : List UsedColumn → Compared → Pred
pred_of used compared = record {
  left = column_number used compared.left;
  op = compared.op;
  right = operand_of used compared.right;
}

abbrev pub preds_of : List UsedColumn → List Compared → List Pred
preds_of used compared = map (pred_of used) compared

-- ---- the select list

-- an aggregate of the select list, with its output name
abbrev pub agg_as : List UsedColumn → Option (List ℕ) → What → Option Agg
agg_as used name (whats.Column at c) = None
agg_as used name (whats.Aggregate number func arg) =
    Some (record { func = func; arg = option_map (column_number used) arg; name = name })

abbrev pub agg_of : List UsedColumn → Chosen → Option Agg
agg_of used chosen = agg_as used chosen.name chosen.what

-- the aggregates in text order
abbrev pub aggs_of : List UsedColumn → List Chosen → List Agg
aggs_of used chosen = filter_map (agg_of used) chosen

-- an element of the output
abbrev pub output_of : List UsedColumn → Chosen → OutItem
output_of used chosen = record { item = target_number used (target_of chosen.what); name = chosen.name }

abbrev pub outputs_of : List UsedColumn → List Chosen → List OutItem
outputs_of used chosen = map (output_of used) chosen

-- ---- GROUP BY and ORDER BY

-- of those under one number the first is kept
unfoldable pub distinct_by : {A : Type 0} → (A → ℕ) → List A → List A
distinct_by number [] = []
distinct_by number (x ∷ xs) = x ∷ filter (λ y. not (number y == number x)) (distinct_by number xs)

-- an element has this number
abbrev pub any_number : {A : Type 0} → (A → ℕ) → ℕ → List A → Bool
any_number number n xs = list_any (λ x. n == number x) xs

-- the elements and one more, unless its number is there
unfoldable pub with_new : {A : Type 0} → (A → ℕ) → List A → A → List A
with_new number kept x = if any_number number (number x) kept then kept else kept ++ x ∷ []

abbrev pub itself : ℕ → ℕ
itself n = n

-- the GROUP BY columns, none of them twice
abbrev pub group_numbers : List UsedColumn → List Column → List ℕ
group_numbers used group = distinct_by itself (map (column_number used) group)

abbrev pub key_of : List UsedColumn → SortKey → OrderKey
key_of used key = record { item = target_number used key.target; desc = key.desc }

abbrev pub key_item : OrderKey → ℕ
key_item key = key.item

-- the keys of ORDER BY, no item of them twice
abbrev pub order_of : List UsedColumn → List SortKey → List OrderKey
order_of used keys = distinct_by key_item (map (key_of used) keys)
