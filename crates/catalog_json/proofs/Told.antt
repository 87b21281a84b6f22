-- No fault of the walk is want of memory.
use Rattle.std.proofs.Common.{◌≢◌, ◌==◌, ℕ, Bool, true, false, cond, List, [], length, map, codes, position, nat_lt}
use Rattle.std.proofs.Common.{Option, Some, None, option_map, option_and_then, is_some, Ok, Err}
use Rattle.orca_base.proofs.Checked as checked
use Rattle.orca_base.proofs.Checked.{either, goes_on, seen_told, each_told}
use Rattle.std.specs.Prelude.{ℤ}
use Rattle.std.specs.List.{list_any}
use Rattle.std.specs.Str.{bytes_eq}
use Rattle.serde_json.specs.Data.{Data}
use Rattle.serde_json.specs.Find.{get, as_i64, as_number, as_str, as_array, as_object}
use Rattle.query_core.specs.declared.histogram.Bucket.{Bucket}
use Rattle.query_core.specs.declared.catalog.ColumnInfo.{ColumnInfo}
use Rattle.query_core.specs.declared.catalog.Placing.TheVariants.{Hashed, Replicated}
use Rattle.query_core.specs.declared.catalog.TableInfo.{TableInfo}
use Rattle.query_core.specs.declared.catalog.Catalog.{Catalog}
use Rattle.catalog_json.specs.declared.version.CatalogVersion.{CatalogVersion}
use Rattle.catalog_json.specs.declared.version.CatalogVersion.TheVariants.{One, Two}
use Rattle.catalog_json.specs.declared.fault.Fault.{Fault}
use Rattle.catalog_json.specs.declared.fault.Fault.TheVariants as faults
use Rattle.catalog_json.specs.declared.fault.CatalogFault.TheVariants as outcomes
use Rattle.catalog_json.specs.declared.place.NameList.{NameList}
use Rattle.catalog_json.specs.declared.place.NameList.TheVariants.{Distribution, Index}
use Rattle.catalog_json.specs.declared.place.Place.{Place}
use Rattle.catalog_json.specs.declared.place.Place.TheVariants as places
use Rattle.query_core.specs.Catalog.{is_catalog_name}
use Rattle.query_core.specs.Histogram.{trillion, within}
use Rattle.catalog_json.specs.Walk.{Reading, elements, in_limits, whole, number_at, named, name_at, new_name_at}
use Rattle.catalog_json.specs.Walk.{of_length, list_at, object_at, column_at, columns_at, new_place, listed_at}
use Rattle.catalog_json.specs.Walk.{places_at, placing_by, index_at, indexes_at, lists_at, named_table_at, table_at}
use Rattle.catalog_json.specs.Walk.{version_of, tables_at, catalog_at, in_word, signed_at, goes_above, end_at}
use Rattle.catalog_json.specs.Walk.{bucket_at, histogram_at, histogram_by, replicated_at}
use Rattle.catalog_json.specs.Outcome.{told, told_of, of_value, json_of, most_bytes, reading_of}

-- the reading has a value, or a fault other than want of memory
abbrev IsTold : {A : Type 0} → Reading A → Type 0
IsTold reading = checked.IsTold faults.Memory reading

-- ---- numbers, names, lists and objects

limits_told : (least most : ℕ) (at : Place) (found : Option ℕ) → IsTold (in_limits least most at found)
limits_told least most at None = λ same. cc
limits_told least most at (Some n) = either faults.Memory (within least most n) (Ok n) (Err (faults.Range at)) tt
    (λ same. cc)

named_told : (at : Place) (found : Option (List ℕ)) → IsTold (named at found)
named_told at None = λ same. cc
named_told at (Some text) = either faults.Memory (is_catalog_name text) (Ok text) (Err (faults.Shape at)) tt
    (λ same. cc)

new_name_told : (at : Place) (before : List (List ℕ)) (found : Option Data) → IsTold (new_name_at at before found)
unfolding new_name_at
new_name_told at before found =
    goes_on faults.Memory (name_at at found)
    (λ name. cond (list_any (bytes_eq name) before) (Err (faults.Twice at)) (Ok name))
    (named_told at (option_and_then as_str found))
    (λ name. either faults.Memory (list_any (bytes_eq name) before) (Err (faults.Twice at)) (Ok name) (λ same. cc) tt)

length_told : (least most : ℕ) (at : Place) (found : Option (List Data)) → IsTold (of_length least most at found)
length_told least most at None = λ same. cc
length_told least most at (Some ds) = either faults.Memory (within least most (length ds)) (Ok ds)
    (Err (faults.Range at)) tt (λ same. cc)

list_told : (least most : ℕ) (at : Place) (found : Option Data) → IsTold (list_at least most at found)
list_told least most at found = length_told least most at (option_map elements (option_and_then as_array found))

object_told : (at : Place) (d : Data) → IsTold (object_at at d)
object_told at d = either faults.Memory (is_some (as_object d)) (Ok d) (Err (faults.Shape at)) tt (λ same. cc)

-- ---- columns and lists of their names

number_told : (least most : ℕ) (at : Place) (found : Option Data) → IsTold (number_at least most at found)
number_told least most at found = limits_told least most at (option_and_then whole found)

signed_told : (at : Place) (found : Option ℤ) → IsTold (in_word at found)
signed_told at None = λ same. cc
signed_told at (Some z) = tt

end_told : (at : Place) (low : ℤ) (before : List Bucket) (found : Option Data) → IsTold (end_at at low before found)
end_told at low before found = goes_on faults.Memory (signed_at at found)
    (λ upto. cond (goes_above low before upto) (Ok upto) (Err (faults.Range at)))
    (signed_told at (option_and_then (λ d. option_and_then as_i64 (as_number d)) found))
    (λ upto. either faults.Memory (goes_above low before upto) (Ok upto) (Err (faults.Range at)) tt (λ same. cc))

bucket_told : (t c : ℕ) (low : ℤ) (before : List Bucket) (d : Data) → IsTold (bucket_at t c low before d)
unfolding bucket_at
bucket_told t c low before d = goes_on faults.Memory _ _ (object_told (places.Bucket t c (length before)) d)
    (λ object. goes_on faults.Memory _ _ (end_told (places.Upto t c (length before)) low before
    (get (codes "upto") object))
    (λ upto. goes_on faults.Memory _ _ (number_told 0 trillion (places.BucketRows t c (length before))
    (get (codes "rows") object)) (λ rows. tt)))

histogram_told : (t c : ℕ) (d : Data) → IsTold (histogram_at t c d)
unfolding histogram_at
histogram_told t c d = goes_on faults.Memory _ _ (object_told (places.Histogram t c) d)
    (λ object. goes_on faults.Memory _ _ (signed_told (places.Low t c)
    (option_and_then (λ d. option_and_then as_i64 (as_number d)) (get (codes "low") object)))
    (λ low. goes_on faults.Memory _ _ (list_told 1 64 (places.Buckets t c) (get (codes "buckets") object))
    (λ ds. goes_on faults.Memory _ _ (each_told faults.Memory (bucket_at t c low) (bucket_told t c low) [] ds)
    (λ buckets. tt))))

histogram_by_told : (version : CatalogVersion) (t c : ℕ) (found : Option Data)
    → IsTold (histogram_by version t c found)
histogram_by_told One t c found = tt
histogram_by_told Two t c None = tt
histogram_by_told Two t c (Some d) = seen_told faults.Memory Some (histogram_at t c d) (histogram_told t c d)

column_told : (version : CatalogVersion) (t : ℕ) (before : List ColumnInfo) (d : Data)
    → IsTold (column_at version t before d)
unfolding column_at
column_told version t before d = goes_on faults.Memory _ _ (object_told (places.Column t (length before)) d)
    (λ object. goes_on faults.Memory _ _ (new_name_told (places.ColumnName t (length before))
    (map (λ c. c.name) before) (get (codes "name") object))
    (λ name. goes_on faults.Memory _ _ (number_told 0 trillion (places.Ndv t (length before))
    (get (codes "ndv") object))
    (λ ndv. goes_on faults.Memory _ _ (histogram_by_told version t (length before) (get (codes "histogram") object))
    (λ histogram. tt))))

columns_told : (version : CatalogVersion) (t : ℕ) (found : Option Data) → IsTold (columns_at version t found)
unfolding columns_at
columns_told version t found = goes_on faults.Memory _ _ (list_told 1 1000 (places.Columns t) found)
    (λ ds. each_told faults.Memory (column_at version t) (column_told version t) [] ds)

place_told : (at : Place) (before : List ℕ) (found : Option ℕ) → IsTold (new_place at before found)
place_told at before None = λ same. cc
place_told at before (Some i) = either faults.Memory (list_any (λ p. p == i) before) (Err (faults.Twice at)) (Ok i)
    (λ same. cc) tt

listed_told : (list : NameList) (names : List (List ℕ)) (before : List ℕ) (d : Data)
    → IsTold (listed_at list names before d)
unfolding listed_at
listed_told list names before d = goes_on faults.Memory _ _
    (named_told (places.Listed list (length before)) (option_and_then as_str (Some d)))
    (λ name. place_told (places.Listed list (length before)) before (position (bytes_eq name) names))

places_told : (list : NameList) (names : List (List ℕ)) (found : Option Data) → IsTold (places_at list names found)
unfolding places_at
places_told list names found = goes_on faults.Memory _ _ (list_told 1 8 (places.NamesOf list) found)
    (λ ds. each_told faults.Memory (listed_at list names) (listed_told list names) [] ds)

-- ---- tables

replicated_told : (version : CatalogVersion) (at : Place) (text : List ℕ) → IsTold (replicated_at version at text)
replicated_told One at text = λ same. cc
replicated_told Two at text = either faults.Memory (bytes_eq text (codes "replicated")) (Ok Replicated)
    (Err (faults.Shape at)) tt (λ same. cc)

placing_by_told : (version : CatalogVersion) (t : ℕ) (names : List (List ℕ)) (found : Option Data)
    (text : Option (List ℕ)) → IsTold (placing_by version t names found text)
unfolding placing_by
placing_by_told version t names found (Some text) = either faults.Memory (bytes_eq text (codes "random")) _ _ tt
    (replicated_told version (places.NamesOf (Distribution t)) text)
placing_by_told version t names found None = seen_told faults.Memory Hashed (places_at (Distribution t) names found)
    (places_told (Distribution t) names found)

indexes_told : (t : ℕ) (names : List (List ℕ)) (found : Option Data) → IsTold (indexes_at t names found)
unfolding indexes_at
indexes_told t names None = tt
indexes_told t names (Some d) = goes_on faults.Memory _ _ (list_told 0 16 (places.Indexes t) (Some d))
    (λ ds. each_told faults.Memory (index_at t names) (λ before e. places_told (Index t (length before)) names (Some e))
    [] ds)

lists_told : (version : CatalogVersion) (t : ℕ) (names : List (List ℕ)) (d : Data)
    → IsTold (lists_at version t names d)
unfolding lists_at
lists_told version t names d = goes_on faults.Memory _ _ (placing_by_told version t names (get (codes "distribution") d)
    (option_and_then as_str (get (codes "distribution") d)))
    (λ placing. goes_on faults.Memory _ _ (indexes_told t names (get (codes "indexes") d)) (λ indexes. tt))

named_table_told : (version : CatalogVersion) (t : ℕ) (name : List ℕ) (d : Data)
    → IsTold (named_table_at version t name d)
unfolding named_table_at
named_table_told version t name d = goes_on faults.Memory _ _ (number_told 0 trillion (places.Rows t) (get (codes "rows") d))
    (λ rows. goes_on faults.Memory _ _ (columns_told version t (get (codes "columns") d))
    (λ columns. goes_on faults.Memory _ _ (lists_told version t (map (λ c. c.name) columns) d) (λ lists. tt)))

table_told : (version : CatalogVersion) (before : List TableInfo) (d : Data) → IsTold (table_at version before d)
unfolding table_at
table_told version before d = goes_on faults.Memory _ _ (object_told (places.Table (length before)) d)
    (λ object. goes_on faults.Memory _ _ (new_name_told (places.TableName (length before))
    (map (λ t. t.name) before) (get (codes "name") object))
    (λ name. named_table_told version (length before) name object))

-- ---- the whole

version_told : (found : Option ℕ) → IsTold (version_of found)
version_told None = λ same. cc
version_told (Some n) = either faults.Memory (n == 1) (Ok One) (cond (n == 2) (Ok Two) (Err (faults.Version n))) tt
    (either faults.Memory (n == 2) (Ok Two) (Err (faults.Version n)) tt (λ same. cc))

tables_told : (version : CatalogVersion) (found : Option Data) → IsTold (tables_at version found)
unfolding tables_at
tables_told version found = goes_on faults.Memory _ _ (list_told 0 1000 places.Tables found)
    (λ ds. each_told faults.Memory (table_at version) (table_told version) [] ds)

catalog_told : (d : Data) → IsTold (catalog_at d)
unfolding catalog_at
catalog_told d = goes_on faults.Memory _ _ (object_told places.Whole d)
    (λ object. goes_on faults.Memory _ _ (version_told (option_and_then whole (get (codes "version") object)))
    (λ version. goes_on faults.Memory _ _ (number_told 1 1000 places.Segments (get (codes "segments") object))
    (λ segments. goes_on faults.Memory _ _ (tables_told version (get (codes "tables") object)) (λ tables. tt))))

-- a fault other than want of memory is told as one
other_told : (fault : Fault) → fault ≢ faults.Memory → told fault ≢ outcomes.Memory
other_told (faults.Shape at) other same = cc
other_told (faults.Version found) other same = cc
other_told (faults.Range at) other same = cc
other_told (faults.Twice at) other same = cc
other_told (faults.UnknownColumn at) other same = cc
other_told faults.Memory other same = other cc

-- so is a reading
reading_told : (reading : Reading Catalog) → IsTold reading → told_of reading ≢ Err outcomes.Memory
reading_told (Ok catalog) is same = cc
reading_told (Err fault) is same = other_told fault is cc

value_told : (value : Option Data) → of_value value ≢ Err outcomes.Memory
value_told None same = cc
value_told (Some d) same = reading_told (catalog_at d) (catalog_told d) same

-- what bytes say is never want of memory
pub bytes_told : (bytes : List ℕ) → reading_of bytes ≢ Err outcomes.Memory
unfolding reading_of
bytes_told bytes = by_length (nat_lt most_bytes (length bytes))
  where
    by_length : (b : Bool) → cond b (Err outcomes.TooLong) (of_value (json_of bytes)) ≢ Err outcomes.Memory
    by_length true same = cc
    by_length false same = value_told (json_of bytes) same
