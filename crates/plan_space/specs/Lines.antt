-- How physical expressions work: for each mode of an expression, what it needs of its children and what it gives.
use Rattle.std.specs.Prelude.{ℕ, Bool, false, ◌==◌, List, [], ◌∷◌, length, Option, None, Some, nat_lt, if◌then◌else◌}
use Rattle.std.specs.Prelude.{slice_get}
use Rattle.std.specs.Option.{option_map, option_map_or}
use Rattle.query_core.specs.Crossing.{crossing_of}
use Rattle.query_core.specs.declared.query.Query.{Query}
use Rattle.query_core.specs.declared.words.KeyParts.{KeyParts}
use Rattle.query_core.specs.Expressions.{table_in}
use Rattle.query_core.specs.declared.expressions.Access.{Access}
use Rattle.query_core.specs.declared.expressions.Access.TheVariants as accesses
use Rattle.query_core.specs.declared.expressions.Physical.{Physical}
use Rattle.query_core.specs.declared.expressions.PhysicalExpr.{PhysicalExpr}
use Rattle.request_props.specs.Numbered.{lists_of, table_dist, column_list, column_order, group_order}
use Rattle.request_props.specs.declared.given.GivenDist.{GivenDist}
use Rattle.request_props.specs.declared.given.GivenDist.TheVariants as given
use Rattle.request_props.specs.declared.given.GivenOrder.{GivenOrder}
use Rattle.request_props.specs.declared.given.GivenOrder.TheVariants.{Listed, Index}
use Rattle.request_props.specs.declared.request.Dist.{Dist}
use Rattle.request_props.specs.declared.request.Dist.TheVariants as dists
use Rattle.request_props.specs.declared.request.Request.{Request}
use Rattle.plan_space.specs.declared.lines.LeftDist.{LeftDist}
use Rattle.plan_space.specs.declared.lines.LeftDist.TheVariants as left_dists
use Rattle.plan_space.specs.declared.lines.LeftOrder.{LeftOrder}
use Rattle.plan_space.specs.declared.lines.LeftOrder.TheVariants as left_orders
use Rattle.plan_space.specs.declared.lines.Line.{Line}
use Rattle.plan_space.specs.declared.lines.Line.TheVariants.{Leaf, Above, Beside}
use Rattle.plan_space.specs.declared.ways.Kept.{Kept}
use Rattle.plan_space.specs.declared.ways.Kept.TheVariants.{Rows, SpreadRows}
use Rattle.plan_space.specs.declared.ways.JoinBy.{JoinBy}
use Rattle.plan_space.specs.declared.ways.JoinBy.TheVariants as joins
use Rattle.plan_space.specs.declared.ways.GroupBy.{GroupBy}
use Rattle.plan_space.specs.declared.ways.GroupBy.TheVariants as grouping
use Rattle.plan_space.specs.declared.ways.Way.{Way}
use Rattle.plan_space.specs.declared.ways.Way.TheVariants.{Reads, Passes, Joins, Groups}
use Rattle.plan_space.specs.Ways.{way_of}
use Rattle.plan_space.specs.Modes.{mode_at}
use Rattle.plan_space.specs.declared.modes.Mode.{Mode}
use Rattle.plan_space.specs.declared.modes.Mode.TheVariants.{Plain, Copied, Hashed}

abbrev pub request : Dist → ℕ → Request
request dist order = record { dist = dist; order = order }

-- an order that is given, over a left child in the same order
abbrev pub in_order : ℕ → LeftOrder
in_order order = left_orders.Fixed (Listed order) order

-- all rows on one segment, over a left child that is so
abbrev pub on_one : LeftDist
on_one = left_dists.Fixed given.One dists.One

-- rows by the hash of the list, over a left child that is so
abbrev pub on_hashed : ℕ → LeftDist
on_hashed list = left_dists.Fixed (given.Hashed list) (dists.Hashed list)

-- ---- the lines of each way

-- a line where the number is 0
abbrev pub only_line : Line → ℕ → Option Line
only_line line number = if number == 0 then Some line else None

-- one line, in one mode
abbrev pub single_line : Line → Mode → Option Line
single_line line (Plain number) = only_line line number
single_line line (Copied number) = None
single_line line (Hashed number) = None

-- all rows of the table lie on each segment
abbrev pub is_replicated : Query → ℕ → Bool
is_replicated q t = option_map_or (λ table. table.replicated) (slice_get q.tables t) false

-- where each segment has all rows of a table, a read gives a share of its own on each segment, all rows at one place,
-- or all rows on each segment
abbrev pub replica_dists : List GivenDist
replica_dists = given.Random ∷ given.One ∷ given.Copies ∷ []

-- the distributions in which the rows of the table are read, by the number of the mode
abbrev pub dists_of_table : Query → ℕ → List GivenDist
dists_of_table q t = if is_replicated q t then replica_dists else table_dist q t ∷ []

-- the rows of a group's table in this order: a line for each distribution in which they are read
abbrev pub table_line : Query → KeyParts → GivenOrder → Mode → Option Line
table_line q group order (Plain number) =
    option_map (λ dist. Leaf dist order) (slice_get (dists_of_table q (table_in group)) number)
table_line q group order (Copied number) = None
table_line q group order (Hashed number) = None

-- a hash join of rows that are hashed alike on the two sides of an equality
abbrev pub hash_colocated : Query → (ℕ × ℕ) → Line
hash_colocated q sides = Beside (on_hashed (column_list q sides.0)) (in_order 0)
    (request (dists.Hashed (column_list q sides.1)) 0)

-- a hash join: on one segment, with copies of the right side, or for each crossing equality of rows hashed alike
abbrev pub hash_line : Query → KeyParts → KeyParts → Mode → Option Line
hash_line q left right (Plain number) = only_line (Beside on_one (in_order 0) (request dists.One 0)) number
hash_line q left right (Copied number) =
    only_line (Beside left_dists.SameSpread (in_order 0) (request dists.Copies 0)) number
hash_line q left right (Hashed number) = option_map (hash_colocated q) (crossing_of q left right number)

-- a merge join of rows in the order of the two sides of an equality
abbrev pub merge_with : Query → LeftDist → Dist → (ℕ × ℕ) → Line
merge_with q dist right sides = Beside dist (in_order (column_order q sides.0)) (request right (column_order q sides.1))

-- and that are hashed alike on them
abbrev pub merge_colocated : Query → (ℕ × ℕ) → Line
merge_colocated q sides = merge_with q (on_hashed (column_list q sides.0)) (dists.Hashed (column_list q sides.1)) sides

-- a merge join for each crossing equality: on one segment, with copies of the right side, or of rows hashed alike
abbrev pub merge_line : Query → KeyParts → KeyParts → Mode → Option Line
merge_line q left right (Plain number) = option_map (merge_with q on_one dists.One) (crossing_of q left right number)
merge_line q left right (Copied number) =
    option_map (merge_with q left_dists.SameSpread dists.Copies) (crossing_of q left right number)
merge_line q left right (Hashed number) = option_map (merge_colocated q) (crossing_of q left right number)

-- a loop join: on one segment, or with copies of the right side; it keeps the left child's order
abbrev pub loop_line : Mode → Option Line
loop_line (Plain number) = only_line (Beside on_one left_orders.Same (request dists.One 0)) number
loop_line (Copied number) = only_line (Beside left_dists.SameSpread left_orders.Same (request dists.Copies 0)) number
loop_line (Hashed number) = None

-- an aggregation that gives this order, over a child in the same order: on one segment, or for each list over rows that
-- are hashed by it
abbrev pub agg_line : Query → ℕ → Mode → Option Line
agg_line q order (Plain number) = only_line (Above on_one (in_order order)) number
agg_line q order (Copied number) = None
agg_line q order (Hashed number) =
    if nat_lt number (length (lists_of q)) then Some (Above (left_dists.Grouped number) (in_order order)) else None

-- ---- the table

-- in no order, or in that of the index of this number of the group's table
abbrev pub order_read : KeyParts → Access → GivenOrder
order_read group accesses.Direct = Listed 0
order_read group (accesses.Index index) = Index (table_in group) index

-- all rows where they lie and in their order, or rows that are shared out, in no order
abbrev pub kept_line : Kept → Line
kept_line Rows = Above left_dists.Same left_orders.Same
kept_line SpreadRows = Above left_dists.SameSpread (in_order 0)

abbrev pub join_line : Query → JoinBy → KeyParts → KeyParts → Mode → Option Line
join_line q joins.Hashing left right mode = hash_line q left right mode
join_line q joins.Merging left right mode = merge_line q left right mode
join_line q joins.Looping left right mode = loop_line mode

-- the order in which rows are grouped
abbrev pub grouped_order : Query → GroupBy → ℕ
grouped_order q grouping.Hashing = 0
grouped_order q grouping.Ordered = group_order q

-- the line of a group's way of working in a mode, if it has the mode
abbrev pub way_line : Query → KeyParts → Way → Mode → Option Line
way_line q group (Reads access) mode = table_line q group (order_read group access) mode
way_line q group (Passes kept child) mode = single_line (kept_line kept) mode
way_line q group (Joins by left right) mode = join_line q by left right mode
way_line q group (Groups by child) mode = agg_line q (grouped_order q by) mode

-- that of a group's operator
abbrev pub operator_line : Query → KeyParts → Physical → Mode → Option Line
operator_line q group operator mode = way_line q group (way_of operator) mode

-- the line of an expression in the mode of a number, if it has the mode
abbrev pub line_of : Query → PhysicalExpr → ℕ → Option Line
line_of q e mode = operator_line q e.group e.operator (mode_at mode)
