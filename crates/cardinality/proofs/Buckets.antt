-- How many rows the buckets of a histogram have.
use Rattle.std.proofs.Common.{◌≡◌, ℕ, ◌+◌, ◌*◌, ◌<◌, ◌≤◌, ◌^◌, Bool, true, false, cond, ◌&&◌, List, [], ◌∷◌, length}
use Rattle.std.proofs.Common.{ap, arith}
use Rattle.std.specs.Prelude.{ℤ, pos, ◌+ℤ◌, nat_le}
use Rattle.std.proofs.lemmas.Bool.{and_parts, leb-true}
use Rattle.std.proofs.lemmas.List.Sums.{sum_by-cons}
use Rattle.query_core.specs.Histogram.{trillion, within, rows_fit, ends_rise, is_histogram}
use Rattle.query_core.specs.declared.histogram.Bucket.{Bucket}
use Rattle.query_core.specs.declared.histogram.Histogram.{Histogram}
use Rattle.cardinality.specs.Factor.{all_rows, has_some, rows_met}
use Rattle.cardinality.specs.declared.histogram.Range.{Range}

-- the rows of a bucket, and of those behind it
pub rows_next : (bucket : Bucket) (buckets : List Bucket) → all_rows (bucket ∷ buckets) ≡ bucket.rows + all_rows buckets
rows_next bucket buckets = sum_by-cons (λ (b : Bucket). b.rows) bucket buckets

-- each bucket has at most a trillion
all_few : (buckets : List Bucket) → rows_fit buckets ≡ true → all_rows buckets ≤ length buckets * 1000000000000
all_few [] fit = omega arith
all_few (bucket ∷ buckets) fit =
    let parts = and_parts (nat_le bucket.rows trillion) (rows_fit buckets) fit in
    omega (arith, rows_next bucket buckets, leb-true bucket.rows trillion parts.0, all_few buckets parts.1)

-- and so all of a histogram's 64 fit a word
pub all_fit : (histogram : Histogram) → is_histogram histogram ≡ true → all_rows histogram.buckets < 2 ^ 64
all_fit histogram is =
    let buckets = histogram.buckets in
    let limits = and_parts (within 1 64 (length buckets) && rows_fit buckets) (ends_rise histogram.low buckets) is in
    let parts = and_parts (within 1 64 (length buckets)) (rows_fit buckets) limits.0 in
    let count = and_parts (nat_le 1 (length buckets)) (nat_le (length buckets) 64) parts.0 in
    omega (arith, all_few buckets parts.1, leb-true (length buckets) 64 count.1)

some_of : (met : Bool) (rows : ℕ) → cond met rows 0 ≤ rows
some_of true rows = omega arith
some_of false rows = omega arith

-- those that have a value of the range are some of all
pub met_few : (range : Range) (low : ℤ) (buckets : List Bucket) → rows_met range low buckets ≤ all_rows buckets
met_few range low [] = omega arith
met_few range low (bucket ∷ buckets) = omega (
  arith,
  rows_next bucket buckets,
  some_of (has_some range low bucket.upto) bucket.rows,
  met_few range (bucket.upto +ℤ pos 1) buckets,
)

-- the rows of the first bucket, or none, and some of the others' fit a word
pub first_fit : (met : Bool) (range : Range) (low : ℤ) (first : Bucket) (others whole : List Bucket) (here later : ℕ)
    → whole ≡ first ∷ others → all_rows whole < 2 ^ 64 → here ≡ cond met first.rows 0
    → later ≡ rows_met range low others → here + later < 2 ^ 64
first_fit met range low first others whole here later is fit of_first of_others =
    omega (
      arith,
      ap all_rows is,
      rows_next first others,
      some_of met first.rows,
      met_few range low others,
    )
