-- The JSON pointer of each part of a catalogue.
use Rattle.std.specs.Prelude.{ℕ, List, [], ◌++◌, codes, decimal}
use Rattle.catalog_json.specs.declared.place.NameList.{NameList}
use Rattle.catalog_json.specs.declared.place.NameList.TheVariants.{Distribution, Index}
use Rattle.catalog_json.specs.declared.place.Place.{Place}
use Rattle.catalog_json.specs.declared.place.Place.TheVariants.{Whole, Version, Segments, Tables, Table, TableName}
use Rattle.catalog_json.specs.declared.place.Place.TheVariants.{Rows, Columns, Column, ColumnName, Ndv, Histogram, Low}
use Rattle.catalog_json.specs.declared.place.Place.TheVariants.{Buckets, Bucket, Upto, BucketRows, Indexes, NamesOf}
use Rattle.catalog_json.specs.declared.place.Place.TheVariants.{Listed}

-- table t, and then the rest of the pointer
abbrev pub in_table : ℕ → List ℕ → List ℕ
in_table t rest = codes "/tables/" ++ decimal t ++ rest

-- column c of table t, and then the rest of the pointer
abbrev pub in_column : ℕ → ℕ → List ℕ → List ℕ
in_column t c rest = in_table t (codes "/columns/" ++ decimal c ++ rest)

-- bucket b of the histogram of column c of table t, and then the rest of the pointer
abbrev pub in_bucket : ℕ → ℕ → ℕ → List ℕ → List ℕ
in_bucket t c b rest = in_column t c (codes "/histogram/buckets/" ++ decimal b ++ rest)

-- a list of column names
abbrev pub list_pointer : NameList → List ℕ
list_pointer (Distribution t) = in_table t (codes "/distribution")
list_pointer (Index t n) = in_table t (codes "/indexes/" ++ decimal n)

-- element i of a list of column names
abbrev pub listed_pointer : NameList → ℕ → List ℕ
listed_pointer list i = list_pointer list ++ codes "/" ++ decimal i

-- the pointer of a place; the whole value has the empty one
abbrev pub pointer_of : Place → List ℕ
pointer_of Whole = []
pointer_of Version = codes "/version"
pointer_of Segments = codes "/segments"
pointer_of Tables = codes "/tables"
pointer_of (Table t) = codes "/tables/" ++ decimal t
pointer_of (TableName t) = in_table t (codes "/name")
pointer_of (Rows t) = in_table t (codes "/rows")
pointer_of (Columns t) = in_table t (codes "/columns")
pointer_of (Column t c) = in_table t (codes "/columns/" ++ decimal c)
pointer_of (ColumnName t c) = in_column t c (codes "/name")
pointer_of (Ndv t c) = in_column t c (codes "/ndv")
pointer_of (Histogram t c) = in_column t c (codes "/histogram")
pointer_of (Low t c) = in_column t c (codes "/histogram/low")
pointer_of (Buckets t c) = in_column t c (codes "/histogram/buckets")
pointer_of (Bucket t c b) = in_bucket t c b []
pointer_of (Upto t c b) = in_bucket t c b (codes "/upto")
pointer_of (BucketRows t c b) = in_bucket t c b (codes "/rows")
pointer_of (Indexes t) = in_table t (codes "/indexes")
pointer_of (NamesOf list) = list_pointer list
pointer_of (Listed list i) = listed_pointer list i
