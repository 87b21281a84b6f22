-- The walk over the value of a histogram gives the histogram.
use Rattle.std.proofs.Common.{◌≡◌, ℕ, suc, ◌-◌, ℤ, int_le, int_lt, Bool}
use Rattle.std.proofs.Common.{true, not, Option, is_some, List, [], ◌∷◌, ◌++◌, length, slice_get}
use Rattle.std.proofs.Common.{option_map, Some, Ok, nat_le, refl, subst, arith, None}
use Rattle.std.proofs.lemmas.Bool.{le-leb, and_from, and_parts}
use Rattle.std.specs.List.{All}
use Rattle.std.specs.Option.{option_map_or}
use Rattle.query_core.specs.declared.histogram.Bucket.{Bucket}
use Rattle.query_core.specs.declared.histogram.Histogram.{Histogram}
use Rattle.query_core.specs.Histogram.{trillion, within, ends_rise, ends_rise_above, is_histogram, may_be_histogram}
use Rattle.catalog_json.specs.declared.place.Place.TheVariants as places
use Rattle.catalog_json.specs.declared.version.CatalogVersion.{CatalogVersion}
use Rattle.catalog_json.specs.declared.version.CatalogVersion.TheVariants.{One, Two}
use Rattle.catalog_json.specs.Walk.{goes_above, bucket_at, histogram_at, histogram_by}
use Rattle.catalog_text.specs.Signed.{EndFits, HistogramFits, NumbersFit}
use Rattle.catalog_text.proofs.Each.{each_read}
use Rattle.catalog_text.proofs.Values.{bucket_data, histogram_data, histogram_parts}
use Rattle.catalog_text.proofs.Among.{among, passes_among}
use Rattle.catalog_text.proofs.Said.{Says}
use Rattle.catalog_text.proofs.Parts.{list_read, signed_read}

-- ends that rise do so at the bucket in the middle
last_above : (first : Bucket) (others : List Bucket) (b : Bucket) (after : List Bucket) (other : Bool)
    → ends_rise_above first.upto (others ++ b ∷ after) ≡ true
    → option_map_or (λ x. int_lt x.upto b.upto) (slice_get (first ∷ others) (length others)) other ≡ true
last_above first [] b after other rise = (and_parts (int_lt first.upto b.upto) _ rise).0
last_above first (next ∷ others) b after other rise =
    last_above next others b after other (and_parts (int_lt first.upto next.upto) _ rise).1

last_place : (n : ℕ) → suc n - 1 ≡ n
last_place n = omega arith

goes_on_above : (low : ℤ) (before : List Bucket) (b : Bucket) (after : List Bucket)
    → ends_rise low (before ++ b ∷ after) ≡ true → goes_above low before b.upto ≡ true
goes_on_above low [] b after rise = (and_parts (int_le low b.upto) _ rise).0
goes_on_above low (first ∷ others) b after rise =
    rw (last_place (length others)) (last_above first others b after (int_le low b.upto)
    (and_parts (int_le low first.upto) _ rise).1)

bucket_read : (t c : ℕ) (low : ℤ) (before : List Bucket) (b : Bucket) → EndFits b → nat_le b.rows trillion ≡ true
    → goes_above low before b.upto ≡ true → bucket_at t c low before (bucket_data b) ≡ Ok b
unfolding bucket_at
bucket_read t c low before b fits few above =
    let rows : within 0 trillion b.rows ≡ true = and_from (nat_le 0 b.rows) (nat_le b.rows trillion)
    (le-leb 0 b.rows (omega arith)) few in
    rw (signed_read (places.Upto t c (length before)) b.upto fits, above, rows) refl

histogram_read : (t c : ℕ) (h : Histogram) → is_histogram h ≡ true → NumbersFit h
    → histogram_at t c (histogram_data h) ≡ Ok h
unfolding histogram_at
histogram_read t c h is fit =
    let parts = histogram_parts h is in
    let buckets = each_read (bucket_at t c h.low) bucket_data h.buckets (λ before b after e.
    bucket_read t c h.low before b
    (among EndFits before b after (subst (λ (bs : List Bucket). All EndFits bs) e fit.ends))
    (passes_among (λ (x : Bucket). nat_le x.rows trillion) h.buckets before b after parts.rows e)
    (goes_on_above h.low before b after (subst (λ (bs : List Bucket). ends_rise h.low bs ≡ true) e parts.rise))) in
    rw (
      signed_read (places.Low t c) h.low fit.low,
      list_read bucket_data 1 64 (places.Buckets t c) h.buckets parts.count,
      buckets,
    ) refl

pub found_read : (version : CatalogVersion) (t c : ℕ) (histogram : Option Histogram)
    → may_be_histogram histogram ≡ true → HistogramFits histogram → Says version (not (is_some histogram))
    → histogram_by version t c (option_map histogram_data histogram) ≡ Ok histogram
found_read One t c None is fits said = refl
found_read One t c (Some histogram) is fits said = absurd cc
found_read Two t c None is fits said = refl
found_read Two t c (Some histogram) is fits said = rw (histogram_read t c histogram is fits) refl
