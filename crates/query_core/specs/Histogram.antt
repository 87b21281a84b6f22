-- What a histogram keeps: its limits, and buckets one above the other.
use Rattle.std.specs.Prelude.{ℕ, ℤ, Bool, true, ◌&&◌, List, [], ◌∷◌, Option, length, nat_le, int_le, int_lt}
use Rattle.std.specs.List.{list_all}
use Rattle.std.specs.Option.{option_map_or}
use Rattle.query_core.specs.declared.histogram.Bucket.{Bucket}
use Rattle.query_core.specs.declared.histogram.Histogram.{Histogram}

-- 10^12, the limit of rows and of distinct values
abbrev pub trillion : ℕ
trillion = 1000000000000

-- n is from least to most
abbrev pub within : ℕ → ℕ → ℕ → Bool
within least most n = nat_le least n && nat_le n most

-- each bucket ends above the end of the one before it
abbrev pub ends_rise_above : ℤ → List Bucket → Bool
ends_rise_above before [] = true
ends_rise_above before (bucket ∷ buckets) = int_lt before bucket.upto && ends_rise_above bucket.upto buckets

-- the first bucket has the least value, and each later one ends above the one before it
abbrev pub ends_rise : ℤ → List Bucket → Bool
ends_rise low [] = true
ends_rise low (bucket ∷ buckets) = int_le low bucket.upto && ends_rise_above bucket.upto buckets

-- at most a trillion rows in each bucket
abbrev pub rows_fit : List Bucket → Bool
rows_fit buckets = list_all (λ bucket. nat_le bucket.rows trillion) buckets

-- 1 to 64 buckets, whose rows are limited and whose ends rise
abbrev pub is_histogram : Histogram → Bool
is_histogram histogram = within 1 64 (length histogram.buckets) && rows_fit histogram.buckets && ends_rise histogram.low
    histogram.buckets

-- what may stand as a column's histogram, which it may lack
abbrev pub may_be_histogram : Option Histogram → Bool
may_be_histogram histogram = option_map_or is_histogram histogram true
