-- The value that the JSON of a catalogue is read as.
use Rattle.std.proofs.Common.{◌≡◌, ℕ, suc, ◌^◌, ◌<◌, ℤ, pos, negsuc, SFits, w64, true, List, [], ◌∷◌, map, codes}
use Rattle.std.proofs.Common.{length, get_or, nat_le, Option, Some, None, option_map, refl, ap, arith}
use Rattle.std.specs.Fmt.{signed_decimal}
use Rattle.std.specs.List.{All}
use Rattle.std.proofs.lemmas.Bool.{and_parts, leb-true}
use Rattle.std.proofs.lemmas.List.Sums.{AllPass-from_list_all}
use Rattle.json.specs.Json as json
use Rattle.serde_json.specs.Data.{Data, Num, string, number, unsigned, negative, array, object, Members, no_members}
use Rattle.serde_json.specs.Data.{put}
use Rattle.serde_json.specs.Read.{number_of, of_json, of_items, of_members}
use Rattle.serde_json.specs.View.{items_of as data_items}
use Rattle.serde_json.proofs.Numbers.{number_of-decimal, number_of-negative}
use Rattle.query_core.specs.declared.histogram.Bucket.{Bucket}
use Rattle.query_core.specs.declared.histogram.Histogram.{Histogram}
use Rattle.query_core.specs.declared.catalog.ColumnInfo.{ColumnInfo}
use Rattle.query_core.specs.declared.catalog.Placing.{Placing}
use Rattle.query_core.specs.declared.catalog.Placing.TheVariants.{Hashed, Random, Replicated}
use Rattle.query_core.specs.declared.catalog.TableInfo.{TableInfo}
use Rattle.query_core.specs.declared.catalog.Catalog.{Catalog}
use Rattle.query_core.specs.Catalog.{IsColumn, IsTable, IsCatalog}
use Rattle.query_core.specs.Histogram.{trillion, within, ends_rise, rows_fit, is_histogram, may_be_histogram}
use Rattle.catalog_json.specs.declared.version.CatalogVersion.{CatalogVersion}
use Rattle.catalog_json.specs.declared.version.CatalogVersion.TheVariants.{One, Two}
use Rattle.catalog_text.specs.Signed.{ColumnFits, HistogramFits, NumbersFit, TableFits}
use Rattle.catalog_text.specs.Text.{bucket_json, histogram_json, histogram_member, items_of, list_json, name_at}
use Rattle.catalog_text.specs.Text.{column_json, places_json, placing_json}
use Rattle.catalog_text.specs.Text.{indexes_member, table_json, version_number, catalog_json}

-- ---- lists

abbrev pub list_data : {X : Type 0} → (X → Data) → List X → Data
list_data form xs = array (data_items (map form xs))

items_value : {X : Type 0} (written : X → json.Json) (form : X → Data) (xs : List X)
    → All (λ x. of_json (written x) ≡ Some (form x)) xs
    → of_items (items_of (map written xs)) ≡ Some (data_items (map form xs))
items_value written form [] h = refl
items_value written form (x ∷ xs) h = rw
    (h 0 x (omega arith), items_value written form xs (λ k d l. h (suc k) d (omega arith))) refl

list_value : {X : Type 0} (written : X → json.Json) (form : X → Data) (xs : List X)
    → All (λ x. of_json (written x) ≡ Some (form x)) xs
    → of_json (list_json written xs) ≡ Some (list_data form xs)
list_value written form xs h = ap (option_map array) (items_value written form xs h)

-- ---- numbers with a sign

-- the number that a whole number is read as
abbrev pub signed : ℤ → Num
signed (pos n) = unsigned n
signed (negsuc n) = negative (negsuc n)

signed_value : (z : ℤ) → SFits w64 z → number_of (signed_decimal z) ≡ Some (signed z)
signed_value (pos n) fits = number_of-decimal n (omega (arith, fits.sfits))
signed_value (negsuc n) fits = number_of-negative n (omega (arith, fits.sfits))

-- ---- histograms

abbrev pub bucket_data : Bucket → Data
bucket_data b = object
    (put (codes "rows") (number (unsigned b.rows)) (put (codes "upto") (number (signed b.upto)) no_members))

bucket_value : (b : Bucket) → SFits w64 b.upto → b.rows < 2 ^ 64 → of_json (bucket_json b) ≡ Some (bucket_data b)
bucket_value b fits few = rw (signed_value b.upto fits, number_of-decimal b.rows few) refl

abbrev pub histogram_data : Histogram → Data
histogram_data h = object
    (put (codes "buckets") (list_data bucket_data h.buckets)
    (put (codes "low") (number (signed h.low)) no_members))

-- what a histogram keeps, part by part
pub record KeepsParts (h : Histogram) : Type 0 where
  pub count : within 1 64 (length h.buckets) ≡ true
  pub rows : rows_fit h.buckets ≡ true
  pub rise : ends_rise h.low h.buckets ≡ true

pub histogram_parts : (h : Histogram) → is_histogram h ≡ true → KeepsParts h
histogram_parts h is =
    let parts = and_parts _ (ends_rise h.low h.buckets) is in
    let front = and_parts (within 1 64 (length h.buckets)) (rows_fit h.buckets) parts.0 in
    record { count = front.0; rows = front.1; rise = parts.1 }

few_rows : (h : Histogram) → is_histogram h ≡ true → All (λ b. b.rows < 2 ^ 64) h.buckets
few_rows h is k d l =
    let few = leb-true (get_or h.buckets k d).rows trillion
    (AllPass-from_list_all (λ b. nat_le b.rows trillion) h.buckets (histogram_parts h is).rows k d l) in
    omega (arith, few)

histogram_value : (h : Histogram) → is_histogram h ≡ true → NumbersFit h
    → of_json (histogram_json h) ≡ Some (histogram_data h)
histogram_value h is fit =
    let buckets = list_value bucket_json bucket_data h.buckets
    (λ k d l. bucket_value (get_or h.buckets k d) (fit.ends k d l) (few_rows h is k d l)) in
    rw (signed_value h.low fit.low, buckets) refl

-- the members before, and the histogram where there is one
abbrev pub with_histogram : Option Histogram → Members → Members
with_histogram None found = found
with_histogram (Some histogram) found = put (codes "histogram") (histogram_data histogram) found

member_value : (histogram : Option Histogram) (found : Members) → may_be_histogram histogram ≡ true
    → HistogramFits histogram
    → of_members (histogram_member histogram) found ≡ Some (with_histogram histogram found)
member_value None found is fit = refl
member_value (Some histogram) found is fit = rw (histogram_value histogram is fit) refl

-- ---- the parts of a table

abbrev pub column_members : ColumnInfo → Members
column_members c = put (codes "ndv") (number (unsigned c.ndv)) (put (codes "name") (string c.name) no_members)

abbrev pub column_data : ColumnInfo → Data
column_data c = object (with_histogram c.histogram (column_members c))

column_value : (c : ColumnInfo) → IsColumn c → ColumnFits c → of_json (column_json c) ≡ Some (column_data c)
column_value c h fits =
    let few : c.ndv < 2 ^ 64 = let most = h.values in omega arith in
    rw (number_of-decimal c.ndv few, member_value c.histogram (column_members c) h.histogram fits) refl

abbrev pub places_data : List ColumnInfo → List ℕ → Data
places_data columns places = list_data (λ place. string (name_at columns place)) places

places_value : (columns : List ColumnInfo) (places : List ℕ)
    → of_json (places_json columns places) ≡ Some (places_data columns places)
places_value columns places = list_value (λ place. json.string (name_at columns place))
    (λ place. string (name_at columns place)) places (λ k d l. refl)

abbrev pub placing_data : List ColumnInfo → Placing → Data
placing_data columns (Hashed places) = places_data columns places
placing_data columns Random = string (codes "random")
placing_data columns Replicated = string (codes "replicated")

placing_value : (columns : List ColumnInfo) (placing : Placing)
    → of_json (placing_json columns placing) ≡ Some (placing_data columns placing)
placing_value columns (Hashed places) = places_value columns places
placing_value columns Random = refl
placing_value columns Replicated = refl

-- the members before, and the indexes where there are some
abbrev pub with_indexes : List ColumnInfo → List (List ℕ) → Members → Members
with_indexes columns [] found = found
with_indexes columns (index ∷ indexes) found = put (codes "indexes")
    (list_data (places_data columns) (index ∷ indexes)) found

indexes_value : (columns : List ColumnInfo) (indexes : List (List ℕ)) (found : Members)
    → of_members (indexes_member columns indexes) found ≡ Some (with_indexes columns indexes found)
indexes_value columns [] found = refl
indexes_value columns (index ∷ indexes) found =
    rw (list_value (places_json columns) (places_data columns) (index ∷ indexes) (λ k d l. places_value columns _)) refl

-- ---- tables, and the whole

abbrev pub table_members : TableInfo → Members
table_members t =
    put (codes "columns") (list_data column_data t.columns)
    (put (codes "distribution") (placing_data t.columns t.placing)
    (put (codes "rows") (number (unsigned t.rows))
    (put (codes "name") (string t.name) no_members)))

abbrev pub table_data : TableInfo → Data
table_data t = object (with_indexes t.columns t.indexes (table_members t))

table_value : (t : TableInfo) → IsTable t → TableFits t → of_json (table_json t) ≡ Some (table_data t)
table_value t h fit =
    let columns = list_value column_json column_data t.columns
    (λ k d l. column_value (get_or t.columns k d) (h.each_column k d l) (fit k d l)) in
    let fits : t.rows < 2 ^ 64 = let most = h.counted in omega arith in
    rw (
      number_of-decimal t.rows fits,
      placing_value t.columns t.placing,
      columns,
      indexes_value t.columns t.indexes (table_members t),
    ) refl

abbrev pub catalog_data : CatalogVersion → Catalog → Data
catalog_data version c = object
    (put (codes "tables") (list_data table_data c.tables)
    (put (codes "segments") (number (unsigned c.segments))
    (put (codes "version") (number (unsigned (version_number version))) no_members)))

number_value : (version : CatalogVersion) → version_number version < 2 ^ 64
number_value One = omega arith
number_value Two = omega arith

-- the JSON of a catalogue that keeps its limits is read as this value
pub catalog_value : (version : CatalogVersion) (c : Catalog) → IsCatalog c → All TableFits c.tables
    → c.segments < 2 ^ 64 → of_json (catalog_json version c) ≡ Some (catalog_data version c)
catalog_value version c h fit few =
    let tables = list_value table_json table_data c.tables (λ k d l. table_value _ (h.each_table k d l) (fit k d l)) in
    rw (
      number_of-decimal (version_number version) (number_value version),
      number_of-decimal c.segments few,
      tables,
    ) refl
