-- The texts of tables, columns and aggregates.
use Rattle.std.specs.Option.{option_map_or}
use Rattle.std.specs.Prelude.{ℕ, ◌-◌, List, [], ◌++◌, length, Option, None, Some, codes, slice_get}
use Rattle.query_core.specs.declared.query.Query.{Query}
use Rattle.query_core.specs.declared.table.Item.{Item}
use Rattle.query_core.specs.declared.aggregate.Agg.{Agg}
use Rattle.query_core.specs.declared.aggregate.AggFunc.{AggFunc}
use Rattle.query_core.specs.declared.aggregate.AggFunc.TheVariants as functions

-- the alias of the table at this place
abbrev pub table_text : Query → ℕ → List ℕ
table_text q table = option_map_or (λ t. t.alias) (slice_get q.tables table) []

-- a column: its table's alias, a point and its name
abbrev pub item_text : Query → Item → List ℕ
item_text q item = table_text q item.table ++ codes "." ++ item.name

-- the column of this number
abbrev pub column_text : Query → ℕ → List ℕ
column_text q number = option_map_or (item_text q) (slice_get q.items number) []

-- what an aggregate computes
abbrev pub function_text : AggFunc → List ℕ
function_text functions.CountAll = codes "COUNT"
function_text functions.Count = codes "COUNT"
function_text functions.Sum = codes "SUM"
function_text functions.Min = codes "MIN"
function_text functions.Max = codes "MAX"

-- the column that an aggregate goes over, or a star where it goes over none
abbrev pub argument_text : Query → Option ℕ → List ℕ
argument_text q None = codes "*"
argument_text q (Some number) = column_text q number

abbrev pub aggregate_text : Query → Agg → List ℕ
aggregate_text q agg = function_text agg.func ++ codes "(" ++ argument_text q agg.arg ++ codes ")"

-- the aggregate at this place
abbrev pub aggregate_text_at : Query → ℕ → List ℕ
aggregate_text_at q place = option_map_or (aggregate_text q) (slice_get q.aggs place) []

-- a name, where there is one
abbrev pub name_text : Option (List ℕ) → List ℕ
name_text None = []
name_text (Some name) = name

-- the output name of the aggregate at this place
abbrev pub aggregate_name_at : Query → ℕ → List ℕ
aggregate_name_at q place = option_map_or (λ agg. name_text agg.name) (slice_get q.aggs place) []

-- the column of this number, or the aggregate; aggregates are numbered after the columns
abbrev pub computed_text : Query → ℕ → List ℕ
computed_text q number = option_map_or (item_text q) (slice_get q.items number)
    (aggregate_text_at q (number - length q.items))

-- the column of this number, or the aggregate's output name
abbrev pub sorted_text : Query → ℕ → List ℕ
sorted_text q number = option_map_or (item_text q) (slice_get q.items number)
    (aggregate_name_at q (number - length q.items))
