-- By which factor a predicate is estimated to reduce rows.
use Rattle.std.specs.Prelude.{ℕ, ℤ, pos, Bool, ◌+◌, ◌+ℤ◌, ◌==◌, List, [], ◌∷◌, Option, None, Some, max, slice_get}
use Rattle.std.specs.Prelude.{int_le, int_lt, option_and_then, if◌then◌else◌}
use Rattle.std.specs.List.{sum_by}
use Rattle.std.specs.Option.{option_map, option_map_or}
use Rattle.query_core.specs.declared.histogram.Bucket.{Bucket}
use Rattle.query_core.specs.declared.histogram.Histogram.{Histogram}
use Rattle.query_core.specs.declared.table.Item.{Item}
use Rattle.query_core.specs.declared.predicate.Pred.{Pred}
use Rattle.query_core.specs.declared.predicate.Operand as operands
use Rattle.query_core.specs.declared.predicate.Operand.{Operand}
use Rattle.query_core.specs.declared.predicate.CmpOp as comparisons
use Rattle.query_core.specs.declared.predicate.CmpOp.{CmpOp}
use Rattle.cardinality.specs.declared.factor.Factor.{Factor}
use Rattle.cardinality.specs.declared.histogram.Range.{Range}
use Rattle.cardinality.specs.declared.histogram.Range.TheVariants.{Below, UpTo, Above, From}

-- so many of so many rows are left
abbrev pub factor : ℕ → ℕ → Factor
factor num den = record { num = num; den = den }

-- ---- equalities

-- the distinct values of an item, at least 1
abbrev pub values_of : List Item → ℕ → ℕ
values_of items number = max 1 (option_map_or (λ item. item.ndv) (slice_get items number) 1)

-- an equality leaves one row of so many: the distinct values of its column, or of that of its two columns with more
abbrev pub equality_divisor : List Item → ℕ → Operand → ℕ
equality_divisor items left (operands.TheVariants.Item right) = max (values_of items left) (values_of items right)
equality_divisor items left (operands.TheVariants.Int value) = values_of items left
equality_divisor items left (operands.TheVariants.Str text) = values_of items left

-- ---- ranges

-- a bucket of the values from low to high has a value of the range
abbrev pub has_some : Range → ℤ → ℤ → Bool
has_some (Below value) low high = int_lt low value
has_some (UpTo value) low high = int_le low value
has_some (Above value) low high = int_lt value high
has_some (From value) low high = int_le value high

-- the rows of the buckets that have a value of the range, where the first one begins at low
abbrev pub rows_met : Range → ℤ → List Bucket → ℕ
rows_met range low [] = 0
rows_met range low (bucket ∷ buckets) = (if has_some range low bucket.upto then bucket.rows else 0)
    + rows_met range (bucket.upto +ℤ pos 1) buckets

-- the rows of all buckets
abbrev pub all_rows : List Bucket → ℕ
all_rows buckets = sum_by (λ bucket. bucket.rows) buckets

-- what is guessed of a range
abbrev pub third : Factor
third = factor 1 3

-- the share of a histogram's rows that lies in buckets with a value of the range
abbrev pub share_met : Range → Histogram → Factor
share_met range histogram = if all_rows histogram.buckets == 0 then third else factor
    (rows_met range histogram.low histogram.buckets) (all_rows histogram.buckets)

-- the histogram of an item, if it has one
abbrev pub histogram_of : List Item → ℕ → Option Histogram
histogram_of items number = option_and_then (λ item. item.histogram) (slice_get items number)

-- a range of integers of a column, by its histogram
abbrev pub integers_factor : List Item → ℕ → Range → Factor
integers_factor items left range = option_map_or (share_met range) (histogram_of items left) third

-- the integer that a column is compared with, if it is one
abbrev pub integer_of : Operand → Option ℤ
integer_of (operands.TheVariants.Item number) = None
integer_of (operands.TheVariants.Int value) = Some value
integer_of (operands.TheVariants.Str text) = None

-- a range of a column, which may be one of integers
abbrev pub range_factor : List Item → ℕ → Option Range → Factor
range_factor items left None = third
range_factor items left (Some range) = integers_factor items left range

-- ---- predicates

-- the factor of a comparison of a column
abbrev pub factor_by : List Item → ℕ → CmpOp → Operand → Factor
factor_by items left comparisons.TheVariants.Eq right = factor 1 (equality_divisor items left right)
factor_by items left comparisons.TheVariants.Ne right = factor 1 1
factor_by items left comparisons.TheVariants.Lt right = range_factor items left (option_map Below (integer_of right))
factor_by items left comparisons.TheVariants.Le right = range_factor items left (option_map UpTo (integer_of right))
factor_by items left comparisons.TheVariants.Gt right = range_factor items left (option_map Above (integer_of right))
factor_by items left comparisons.TheVariants.Ge right = range_factor items left (option_map From (integer_of right))

-- the factor of a predicate
abbrev pub factor_of : List Item → Pred → Factor
factor_of items pred = factor_by items pred.left pred.op pred.right
