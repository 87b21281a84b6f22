-- The estimated rows of a group, which depend on its key alone.
use Rattle.std.specs.Prelude.{ℕ, zero, suc, Bool, true, false, List, ◌&&◌, ◌||◌, ◌==◌, ◌*◌, ◌^◌, min, length, nat_le}
use Rattle.std.specs.Prelude.{slice_get, if◌then◌else◌}
use Rattle.std.specs.Int.{div_ceil}
use Rattle.std.specs.List.{fold}
use Rattle.std.specs.Option.{option_map_or}
use Rattle.query_core.specs.Items.{is_column_of}
use Rattle.query_core.specs.Sets.{bit}
use Rattle.query_core.specs.Keys.{input_of, is_own}
use Rattle.query_core.specs.declared.table.Item.{Item}
use Rattle.query_core.specs.declared.predicate.Pred.{Pred}
use Rattle.query_core.specs.declared.predicate.Operand as operands
use Rattle.query_core.specs.declared.predicate.Operand.{Operand}
use Rattle.query_core.specs.declared.query.Query.{Query}
use Rattle.query_core.specs.declared.words.KeyParts.{KeyParts}
use Rattle.query_core.specs.declared.words.KeyParts.TheVariants.{Get, Filter, Join, Partial, Agg}
use Rattle.cardinality.specs.Factor.{values_of, factor_of}
use Rattle.cardinality.specs.declared.factor.Factor.{Factor}

-- no estimate is above 10^12
abbrev pub capped : ℕ → ℕ
capped rows = min rows 1000000000000

-- the rows of a table
abbrev pub table_rows : Query → ℕ → ℕ
table_rows q t = option_map_or (λ table. table.rows) (slice_get q.tables t) 0

-- the item is a column of one of the set's tables up to this one
abbrev pub is_column_so_far : List Item → ℕ → ℕ → ℕ → Bool
is_column_so_far items set t number = option_map_or (λ item. (bit set item.table == 1) && nat_le item.table t)
    (slice_get items number) false

-- a right side that is a column of the table
abbrev pub is_right_of : List Item → ℕ → Operand → Bool
is_right_of items t (operands.TheVariants.Item number) = is_column_of items t number
is_right_of items t (operands.TheVariants.Int value) = false
is_right_of items t (operands.TheVariants.Str text) = false

-- the predicate has a column of the table
abbrev pub is_over : List Item → ℕ → Pred → Bool
is_over items t pred = is_column_of items t pred.left || is_right_of items t pred.right

-- a right side that is a column is one of the set's tables up to this one
abbrev pub is_right_so_far : List Item → ℕ → ℕ → Operand → Bool
is_right_so_far items set t (operands.TheVariants.Item number) = is_column_so_far items set t number
is_right_so_far items set t (operands.TheVariants.Int value) = true
is_right_so_far items set t (operands.TheVariants.Str text) = true

-- the predicate applies when the table joins those before it: it has a column of the table, and all its columns lie in
-- the set's tables up to this one
abbrev pub applies : List Item → ℕ → ℕ → Pred → Bool
applies items set t pred = is_over items t pred && is_column_so_far items set t pred.left && is_right_so_far items set t
    pred.right

-- the rows that a factor leaves, rounded up
abbrev pub rows_by : ℕ → Factor → ℕ
rows_by rows factor = div_ceil (rows * factor.num) factor.den

-- the rows that are left after a predicate
abbrev pub rows_after : List Item → ℕ → ℕ → ℕ → Pred → ℕ
rows_after items set t rows pred = if applies items set t pred then rows_by rows (factor_of items pred) else rows

-- the rows once the table has joined those before it: all pairs, and of these what each predicate in turn leaves
abbrev pub rows_with : Query → ℕ → ℕ → ℕ → ℕ
rows_with q set t rows = fold (rows_after q.items set t) (capped (rows * table_rows q t)) q.preds

-- the rows after the turn of a table, which joins only where the set has it
abbrev pub rows_next : Query → ℕ → ℕ → ℕ → ℕ
rows_next q set t rows = if bit set t == 1 then rows_with q set t rows else rows

-- the rows of the join of the set's tables among the first so many
abbrev pub rows_upto : Query → ℕ → ℕ → ℕ
rows_upto q set zero = 1
rows_upto q set (suc t) = rows_next q set t (rows_upto q set t)

-- the rows of the join of a set of tables
abbrev pub joined_rows : Query → ℕ → ℕ
joined_rows q set = rows_upto q set (length q.tables)

-- the rows of a group before any grouping; the groups of GROUP BY have none
abbrev pub ungrouped_rows : Query → KeyParts → ℕ
ungrouped_rows q (Get t) = table_rows q t
ungrouped_rows q (Filter t) = joined_rows q (2 ^ t)
ungrouped_rows q (Join set) = joined_rows q set
ungrouped_rows q Partial = 0
ungrouped_rows q Agg = 0

-- the rows that are grouped
abbrev pub input_rows : Query → ℕ
input_rows q = ungrouped_rows q (input_of q)

-- the combinations of values of the GROUP BY columns
abbrev pub combinations : List Item → List ℕ → ℕ
combinations items columns = fold (λ count column. capped (count * values_of items column)) 1 columns

-- the groups of GROUP BY; without columns there is one
abbrev pub grouped_rows : Query → ℕ
grouped_rows q = if length q.group_by == 0 then 1 else min (input_rows q) (combinations q.items q.group_by)

-- each segment has at most all groups; without columns it has one
abbrev pub partial_rows : Query → ℕ
partial_rows q = if length q.group_by == 0 then q.segments else min (input_rows q)
    (capped (q.segments * grouped_rows q))

-- the estimated rows of a group
abbrev pub rows_of : Query → KeyParts → ℕ
rows_of q (Get t) = ungrouped_rows q (Get t)
rows_of q (Filter t) = ungrouped_rows q (Filter t)
rows_of q (Join set) = ungrouped_rows q (Join set)
rows_of q Partial = partial_rows q
rows_of q Agg = grouped_rows q

-- what the own predicates of a table, one after the other, leave of its rows
abbrev pub own_rows : Query → ℕ → ℕ
own_rows q t = fold (λ rows pred. if is_own q.items t pred then rows_by rows (factor_of q.items pred) else rows)
    (table_rows q t) q.preds
