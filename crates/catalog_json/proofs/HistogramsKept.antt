-- A histogram that is read keeps the limits, and its ends rise.
use Rattle.std.proofs.Common.{◌≡◌, ℕ, suc, ◌-◌, ◌≤◌, ◌&&◌, Bool, true, List, [], ◌∷◌, ◌++◌, length, codes, Option}
use Rattle.std.proofs.Common.{Some, None, Ok, refl, subst, ◌∙◌, arith, nat_le}
use Rattle.std.specs.Prelude.{ℤ, int_le, int_lt, slice_get}
use Rattle.std.specs.Option.{option_map_or}
use Rattle.std.proofs.lemmas.Bool.{leb-true, and_from, and_parts}
use Rattle.std.proofs.lemmas.List.Folds.{list_all-append}
use Rattle.serde_json.specs.Data.{Data}
use Rattle.serde_json.specs.Find.{get}
use Rattle.query_core.specs.declared.histogram.Bucket.{Bucket}
use Rattle.query_core.specs.declared.histogram.Histogram.{Histogram}
use Rattle.query_core.specs.Histogram.{trillion, within, rows_fit, ends_rise, ends_rise_above, is_histogram}
use Rattle.query_core.specs.Histogram.{may_be_histogram}
use Rattle.catalog_json.specs.declared.place.Place.{Place}
use Rattle.catalog_json.specs.declared.place.Place.TheVariants as places
use Rattle.catalog_json.specs.declared.fault.Fault.TheVariants.{Range}
use Rattle.catalog_json.specs.declared.version.CatalogVersion.{CatalogVersion}
use Rattle.catalog_json.specs.declared.version.CatalogVersion.TheVariants.{One, Two}
use Rattle.catalog_json.specs.Walk.{bucket_at, each, end_at, goes_above, histogram_at, histogram_by, list_at}
use Rattle.catalog_json.specs.Walk.{number_at, object_at, signed_at}
use Rattle.orca_base.proofs.Checked.{bind_ok, each_counts, met, ok_is, seen_ok}
use Rattle.catalog_json.proofs.Steps.{all_keep, list_kept, number_kept}

-- a number up to its limit
pub below : (most n : ℕ) → within 0 most n ≡ true → n ≤ most
below most n e = leb-true n most (and_parts _ _ e).1

-- ---- ends

-- where the ends rise and one more is above the last, all rise
one_above : (bucket : Bucket) (above : Bool) (before : Bucket) (others : List Bucket)
    → ends_rise_above before.upto others ≡ true
    → option_map_or (λ b. int_lt b.upto bucket.upto) (slice_get (before ∷ others) (length others)) above ≡ true
    → ends_rise_above before.upto (others ++ bucket ∷ []) ≡ true
one_above bucket above before [] rise last = and_from (int_lt before.upto bucket.upto) true last refl
one_above bucket above before (other ∷ others) rise last =
    let parts = and_parts (int_lt before.upto other.upto) (ends_rise_above other.upto others) rise in
    and_from (int_lt before.upto other.upto) (ends_rise_above other.upto (others ++ bucket ∷ [])) parts.0
    (one_above bucket above other others parts.1 last)

last_place : (n : ℕ) → suc n - 1 ≡ n
last_place n = omega arith

one_more : (low : ℤ) (before : List Bucket) (bucket : Bucket) → ends_rise low before ≡ true
    → goes_above low before bucket.upto ≡ true → ends_rise low (before ++ bucket ∷ []) ≡ true
one_more low [] bucket rise above = and_from (int_le low bucket.upto) true above refl
one_more low (first ∷ others) bucket rise above =
    let parts = and_parts (int_le low first.upto) (ends_rise_above first.upto others) rise in
    let last = rw (last_place (length others)) at above in
    and_from (int_le low first.upto) (ends_rise_above first.upto (others ++ bucket ∷ [])) parts.0
    (one_above bucket (int_le low bucket.upto) first others parts.1 last)

end_kept : (at : Place) (low : ℤ) (before : List Bucket) (found : Option Data) (upto : ℤ)
    → end_at at low before found ≡ Ok upto → goes_above low before upto ≡ true
end_kept at low before found upto e =
    let read = bind_ok (signed_at at found) _ upto e in
    let test = met (goes_above low before read.0) (Range at) read.0 upto read.2 in
    subst (λ (z : ℤ). goes_above low before z ≡ true) test.1 test.0

-- ---- buckets

-- buckets as those of a histogram, as far as they are read
record AreBuckets (low : ℤ) (buckets : List Bucket) : Type 0 where
  fit : rows_fit buckets ≡ true
  rise : ends_rise low buckets ≡ true

bucket_kept : (t c : ℕ) (low : ℤ) (before : List Bucket) (d : Data) (bucket : Bucket) → AreBuckets low before
    → bucket_at t c low before d ≡ Ok bucket → AreBuckets low (before ++ bucket ∷ [])
unfolding bucket_at
bucket_kept t c low before d bucket so_far e =
    let b = length before in
    let object = bind_ok (object_at (places.Bucket t c b) d) _ bucket e in
    let upto = bind_ok (end_at (places.Upto t c b) low before (get (codes "upto") object.0)) _ bucket object.2 in
    let rows = bind_ok (number_at 0 trillion (places.BucketRows t c b) (get (codes "rows") object.0)) _ bucket upto.2 in
    let made : Bucket = record { upto = upto.0; rows = rows.0 } in
    let few = (and_parts (nat_le 0 rows.0) (nat_le rows.0 trillion)
    (number_kept 0 trillion (places.BucketRows t c b) (get (codes "rows") object.0) rows.0 rows.1)).1 in
    subst (λ (x : Bucket). AreBuckets low (before ++ x ∷ [])) {x = made} (ok_is made bucket rows.2) (record {
      fit = list_all-append (λ x. nat_le x.rows trillion) before (made ∷ [])
          ∙ rw (so_far.fit) (and_from (nat_le rows.0 trillion) true few refl);
      rise = one_more low before made so_far.rise
          (end_kept (places.Upto t c b) low before (get (codes "upto") object.0) upto.0 upto.1);
    })

-- ---- histograms

histogram_kept : (t c : ℕ) (d : Data) (histogram : Histogram) → histogram_at t c d ≡ Ok histogram
    → is_histogram histogram ≡ true
unfolding histogram_at
histogram_kept t c d histogram e =
    let object = bind_ok (object_at (places.Histogram t c) d) _ histogram e in
    let low = bind_ok (signed_at (places.Low t c) (get (codes "low") object.0)) _ histogram object.2 in
    let ds = bind_ok (list_at 1 64 (places.Buckets t c) (get (codes "buckets") object.0)) _ histogram low.2 in
    let buckets = bind_ok (each (bucket_at t c low.0) [] ds.0) _ histogram ds.2 in
    let are = all_keep (bucket_at t c low.0) (AreBuckets low.0) (bucket_kept t c low.0) [] ds.0 buckets.0
    (record { fit = refl; rise = refl }) buckets.1 in
    let count : within 1 64 (length buckets.0) ≡ true = rw (each_counts (bucket_at t c low.0) ds.0 buckets.0 buckets.1)
    (list_kept 1 64 (places.Buckets t c) (get (codes "buckets") object.0) ds.0 ds.1) in
    let made : Histogram = record { low = low.0; buckets = buckets.0 } in
    subst (λ (h : Histogram). is_histogram h ≡ true) {x = made} (ok_is made histogram buckets.2)
    (and_from (within 1 64 (length buckets.0) && rows_fit buckets.0) (ends_rise low.0 buckets.0)
    (and_from (within 1 64 (length buckets.0)) (rows_fit buckets.0) count are.fit) are.rise)

pub histogram_by_kept : (version : CatalogVersion) (t c : ℕ) (found : Option Data) (histogram : Option Histogram)
    → histogram_by version t c found ≡ Ok histogram → may_be_histogram histogram ≡ true
histogram_by_kept One t c found histogram e = subst (λ h. may_be_histogram h ≡ true) (ok_is None histogram e) refl
histogram_by_kept Two t c None histogram e = subst (λ h. may_be_histogram h ≡ true) (ok_is None histogram e) refl
histogram_by_kept Two t c (Some d) histogram e =
    let read = seen_ok Some (histogram_at t c d) histogram e in
    subst (λ h. may_be_histogram h ≡ true) read.2 (histogram_kept t c d read.0 read.1)
