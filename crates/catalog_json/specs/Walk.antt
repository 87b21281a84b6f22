-- Reading the parts of a catalogue in order, up to the first fault.
pub use Rattle.orca_base.specs.Checked.{◌>>=◌, seen}
unfoldable pub use Rattle.orca_base.specs.Checked.{each}
use Rattle.std.specs.Prelude.{ℕ, ℤ, Bool, ◌-◌, ◌==◌, List, [], ◌∷◌, length, map, position, codes, if◌then◌else◌}
use Rattle.std.specs.Prelude.{Option, Some, None, option_map, option_and_then, is_some, slice_get, int_le, int_lt}
use Rattle.std.specs.Prelude.{Result, Ok, Err}
use Rattle.std.specs.List.{list_any}
use Rattle.std.specs.Option.{option_map_or}
use Rattle.std.specs.Str.{bytes_eq}
use Rattle.orca_base.specs.Checked as checked
use Rattle.query_core.specs.declared.histogram.Bucket.{Bucket}
use Rattle.query_core.specs.declared.histogram.Histogram.{Histogram}
use Rattle.query_core.specs.declared.catalog.ColumnInfo.{ColumnInfo}
use Rattle.query_core.specs.declared.catalog.Placing.{Placing}
use Rattle.query_core.specs.declared.catalog.Placing.TheVariants.{Hashed, Random, Replicated}
use Rattle.query_core.specs.declared.catalog.TableInfo.{TableInfo}
use Rattle.query_core.specs.declared.catalog.Catalog.{Catalog}
use Rattle.serde_json.specs.Data.{Data, Items, no_items, item}
use Rattle.serde_json.specs.Find.{get, as_number, as_i64, as_u64, as_str, as_array, as_object}
use Rattle.query_core.specs.Catalog.{is_catalog_name}
use Rattle.query_core.specs.Histogram.{trillion, within}
use Rattle.catalog_json.specs.declared.place.NameList.{NameList}
use Rattle.catalog_json.specs.declared.place.NameList.TheVariants.{Distribution, Index}
use Rattle.catalog_json.specs.declared.place.Place.{Place}
use Rattle.catalog_json.specs.declared.place.Place.TheVariants as places
use Rattle.catalog_json.specs.declared.version.CatalogVersion.{CatalogVersion}
use Rattle.catalog_json.specs.declared.version.CatalogVersion.TheVariants.{One, Two}
use Rattle.catalog_json.specs.declared.fault.Fault.{Fault}
use Rattle.catalog_json.specs.declared.fault.Fault.TheVariants.{Shape, Version, Range, Twice, UnknownColumn, Memory}

-- a part's value, or the first fault
abbrev pub Reading : Type 0 → Type 0
Reading A = Result A Fault

-- what a function returned is the reading, unless memory ran out
abbrev pub Yields : {A : Type 0} → Reading A → Reading A → Type 0
Yields reading returned = checked.Yields Memory reading returned

-- ---- numbers, names, lists and objects

-- a whole number, where there is one, within limits
abbrev pub in_limits : ℕ → ℕ → Place → Option ℕ → Reading ℕ
in_limits least most at None = Err (Shape at)
in_limits least most at (Some n) = if within least most n then Ok n else Err (Range at)

-- a whole number
abbrev pub whole : Data → Option ℕ
whole d = option_and_then as_u64 (as_number d)

-- a whole number within limits
abbrev pub number_at : ℕ → ℕ → Place → Option Data → Reading ℕ
number_at least most at found = in_limits least most at (option_and_then whole found)

-- a whole number, where there is one, from -2^63 to 2^63 - 1
abbrev pub in_word : Place → Option ℤ → Reading ℤ
in_word at None = Err (Shape at)
in_word at (Some z) = Ok z

-- a whole number from -2^63 to 2^63 - 1
abbrev pub signed_at : Place → Option Data → Reading ℤ
signed_at at found = in_word at (option_and_then (λ d. option_and_then as_i64 (as_number d)) found)

-- a text, where there is one, as a name
abbrev pub named : Place → Option (List ℕ) → Reading (List ℕ)
named at None = Err (Shape at)
named at (Some text) = if is_catalog_name text then Ok text else Err (Shape at)

-- a name
abbrev pub name_at : Place → Option Data → Reading (List ℕ)
name_at at found = named at (option_and_then as_str found)

-- a name that is none of those before it
unfoldable pub new_name_at : Place → List (List ℕ) → Option Data → Reading (List ℕ)
new_name_at at before found = do
  name ← name_at at found
  if list_any (bytes_eq name) before then Err (Twice at) else Ok name

-- the elements of an array
abbrev pub elements : Items → List Data
elements no_items = []
elements (item d ds) = d ∷ elements ds

-- a list, where there is one, with a number of elements within limits
abbrev pub of_length : ℕ → ℕ → Place → Option (List Data) → Reading (List Data)
of_length least most at None = Err (Shape at)
of_length least most at (Some ds) = if within least most (length ds) then Ok ds else Err (Range at)

-- an array with a number of elements within limits
abbrev pub list_at : ℕ → ℕ → Place → Option Data → Reading (List Data)
list_at least most at found = of_length least most at (option_map elements (option_and_then as_array found))

-- an object
abbrev pub object_at : Place → Data → Reading Data
object_at at d = if is_some (as_object d) then Ok d else Err (Shape at)

-- ---- histograms

-- an end above the last of the buckets before it, or that is the least value or above it where there are none
abbrev pub goes_above : ℤ → List Bucket → ℤ → Bool
goes_above low before upto = option_map_or (λ bucket. int_lt bucket.upto upto)
    (slice_get before (length before - 1)) (int_le low upto)

-- the end of a bucket, after the buckets before it
abbrev pub end_at : Place → ℤ → List Bucket → Option Data → Reading ℤ
end_at at low before found =
    signed_at at found >>= λ upto. if goes_above low before upto then Ok upto else Err (Range at)

-- a bucket of column c of table t, after those before it
unfoldable pub bucket_at : ℕ → ℕ → ℤ → List Bucket → Data → Reading Bucket
bucket_at t c low before d = do
  object ← object_at (places.Bucket t c (length before)) d
  upto ← end_at (places.Upto t c (length before)) low before (get (codes "upto") object)
  rows ← number_at 0 trillion (places.BucketRows t c (length before)) (get (codes "rows") object)
  Ok (record { upto = upto; rows = rows })

-- the histogram of column c of table t
unfoldable pub histogram_at : ℕ → ℕ → Data → Reading Histogram
histogram_at t c d = do
  object ← object_at (places.Histogram t c) d
  low ← signed_at (places.Low t c) (get (codes "low") object)
  ds ← list_at 1 64 (places.Buckets t c) (get (codes "buckets") object)
  buckets ← each (bucket_at t c low) [] ds
  Ok (record { low = low; buckets = buckets })

-- the histogram, where there is one and the version can say it
abbrev pub histogram_by : CatalogVersion → ℕ → ℕ → Option Data → Reading (Option Histogram)
histogram_by One t c found = Ok None
histogram_by Two t c None = Ok None
histogram_by Two t c (Some d) = seen Some (histogram_at t c d)

-- ---- columns

-- a column of table t, after those before it
unfoldable pub column_at : CatalogVersion → ℕ → List ColumnInfo → Data → Reading ColumnInfo
column_at version t before d = do
  object ← object_at (places.Column t (length before)) d
  name ← new_name_at (places.ColumnName t (length before)) (map (λ c. c.name) before) (get (codes "name") object)
  ndv ← number_at 0 trillion (places.Ndv t (length before)) (get (codes "ndv") object)
  histogram ← histogram_by version t (length before) (get (codes "histogram") object)
  Ok (record { name = name; ndv = ndv; histogram = histogram })

-- the columns of table t
unfoldable pub columns_at : CatalogVersion → ℕ → Option Data → Reading (List ColumnInfo)
columns_at version t found = do
  ds ← list_at 1 1000 (places.Columns t) found
  each (column_at version t) [] ds

-- ---- lists of column names, as places among the table's columns

-- the place of a listed name, which stands at none of the places before it
abbrev pub new_place : Place → List ℕ → Option ℕ → Reading ℕ
new_place at before None = Err (UnknownColumn at)
new_place at before (Some i) = if list_any (λ p. p == i) before then Err (Twice at) else Ok i

-- an element of a list, after the places of those before it
unfoldable pub listed_at : NameList → List (List ℕ) → List ℕ → Data → Reading ℕ
listed_at list names before d = do
  name ← name_at (places.Listed list (length before)) (Some d)
  new_place (places.Listed list (length before)) before (position (bytes_eq name) names)

-- a list of columns
unfoldable pub places_at : NameList → List (List ℕ) → Option Data → Reading (List ℕ)
places_at list names found = do
  ds ← list_at 1 8 (places.NamesOf list) found
  each (listed_at list names) [] ds

-- ---- tables

-- the text for all rows on each segment, where the version can say it
abbrev pub replicated_at : CatalogVersion → Place → List ℕ → Reading Placing
replicated_at One at text = Err (Shape at)
replicated_at Two at text = if bytes_eq text (codes "replicated") then Ok Replicated else Err (Shape at)

-- a text that stands for a distribution
abbrev pub named_placing : CatalogVersion → Place → List ℕ → Reading Placing
named_placing version at text = if bytes_eq text (codes "random") then Ok Random else replicated_at version at text

-- a distribution, with the text that it may be: else it is a list of the columns that are hashed
unfoldable pub placing_by : CatalogVersion → ℕ → List (List ℕ) → Option Data → Option (List ℕ) → Reading Placing
placing_by version t names found (Some text) = named_placing version (places.NamesOf (Distribution t)) text
placing_by version t names found None = seen Hashed (places_at (Distribution t) names found)

-- a distribution
abbrev pub placing_at : CatalogVersion → ℕ → List (List ℕ) → Option Data → Reading Placing
placing_at version t names found = placing_by version t names found (option_and_then as_str found)

-- an index, after those before it
abbrev pub index_at : ℕ → List (List ℕ) → List (List ℕ) → Data → Reading (List ℕ)
index_at t names before d = places_at (Index t (length before)) names (Some d)

-- the indexes of table t; an absent list means none
unfoldable pub indexes_at : ℕ → List (List ℕ) → Option Data → Reading (List (List ℕ))
indexes_at t names None = Ok []
indexes_at t names (Some d) = do
  ds ← list_at 0 16 (places.Indexes t) (Some d)
  each (index_at t names) [] ds

-- where the rows of table t lie, and its indexes, over the names of its columns
unfoldable pub lists_at : CatalogVersion → ℕ → List (List ℕ) → Data → Reading (Placing × List (List ℕ))
lists_at version t names d = do
  placing ← placing_at version t names (get (codes "distribution") d)
  indexes ← indexes_at t names (get (codes "indexes") d)
  Ok (placing, indexes)

-- table t of this name, with what the other members of its object say
unfoldable pub named_table_at : CatalogVersion → ℕ → List ℕ → Data → Reading TableInfo
named_table_at version t name d = do
  rows ← number_at 0 trillion (places.Rows t) (get (codes "rows") d)
  columns ← columns_at version t (get (codes "columns") d)
  lists ← lists_at version t (map (λ c. c.name) columns) d
  Ok (record { name = name; rows = rows; placing = lists.0; columns = columns; indexes = lists.1 })

-- a table, after those before it
unfoldable pub table_at : CatalogVersion → List TableInfo → Data → Reading TableInfo
table_at version before d = do
  object ← object_at (places.Table (length before)) d
  name ← new_name_at (places.TableName (length before)) (map (λ t. t.name) before) (get (codes "name") object)
  named_table_at version (length before) name object

-- ---- the whole

-- the version of a whole number, where there is one
abbrev pub version_of : Option ℕ → Reading CatalogVersion
version_of None = Err (Shape places.Version)
version_of (Some n) = if n == 1 then Ok One else if n == 2 then Ok Two else Err (Version n)

-- the version
abbrev pub version_at : Option Data → Reading CatalogVersion
version_at found = version_of (option_and_then whole found)

-- the tables
unfoldable pub tables_at : CatalogVersion → Option Data → Reading (List TableInfo)
tables_at version found = do
  ds ← list_at 0 1000 places.Tables found
  each (table_at version) [] ds

-- the whole catalogue
unfoldable pub catalog_at : Data → Reading Catalog
catalog_at d = do
  object ← object_at places.Whole d
  version ← version_at (get (codes "version") object)
  segments ← number_at 1 1000 places.Segments (get (codes "segments") object)
  tables ← tables_at version (get (codes "tables") object)
  Ok (record { segments = segments; tables = tables })
