-- The text of a catalogue, in either version: JSON without spaces.
use Rattle.std.specs.Prelude.{ℕ, Bool, true, false, not, ◌&&◌, List, [], ◌∷◌, map, slice_index_or, codes, decimal}
use Rattle.std.specs.Prelude.{Option, Some, None, is_some}
use Rattle.std.specs.Fmt.{signed_decimal}
use Rattle.std.specs.List.{list_all}
use Rattle.json.specs.Json.{Json, string, number, array, object, Items, no_items, item, Members, no_members, member}
use Rattle.json.specs.Print.{print}
use Rattle.json.specs.Tree.{json_tokens}
use Rattle.query_core.specs.declared.histogram.Bucket.{Bucket}
use Rattle.query_core.specs.declared.histogram.Histogram.{Histogram}
use Rattle.query_core.specs.declared.catalog.ColumnInfo.{ColumnInfo}
use Rattle.query_core.specs.declared.catalog.Placing.{Placing}
use Rattle.query_core.specs.declared.catalog.Placing.TheVariants.{Hashed, Random, Replicated}
use Rattle.query_core.specs.declared.catalog.TableInfo.{TableInfo}
use Rattle.query_core.specs.declared.catalog.Catalog.{Catalog}
use Rattle.catalog_json.specs.Columns.{names_of}
use Rattle.catalog_json.specs.declared.version.CatalogVersion.{CatalogVersion}
use Rattle.catalog_json.specs.declared.version.CatalogVersion.TheVariants.{One, Two}

-- ---- what a version can say

-- rows lie by a hash, or anywhere
abbrev pub is_plain_placing : Placing → Bool
is_plain_placing (Hashed places) = true
is_plain_placing Random = true
is_plain_placing Replicated = false

-- no column has a histogram, and not all rows lie on each segment
abbrev pub is_plain_table : TableInfo → Bool
is_plain_table table =
    is_plain_placing table.placing && list_all (λ column. not (is_some column.histogram)) table.columns

-- the version can say all of the catalogue: the first knows no histogram, and no table with all rows on each segment
abbrev pub can_say : CatalogVersion → Catalog → Bool
can_say One catalog = list_all is_plain_table catalog.tables
can_say Two catalog = true

-- ---- the text

-- these values, one after another
abbrev pub items_of : List Json → Items
items_of [] = no_items
items_of (j ∷ js) = item j (items_of js)

-- a list, whose elements stand for these values
abbrev pub list_json : {X : Type 0} → (X → Json) → List X → Json
list_json json xs = array (items_of (map json xs))

-- a bucket: its end and its rows
abbrev pub bucket_json : Bucket → Json
bucket_json bucket = object
    (member (codes "upto") (number (signed_decimal bucket.upto))
    (member (codes "rows") (number (decimal bucket.rows))
    no_members))

-- a histogram: its least value and its buckets
abbrev pub histogram_json : Histogram → Json
histogram_json histogram = object
    (member (codes "low") (number (signed_decimal histogram.low))
    (member (codes "buckets") (list_json bucket_json histogram.buckets)
    no_members))

-- the member for the histogram, where there is one
abbrev pub histogram_member : Option Histogram → Members
histogram_member None = no_members
histogram_member (Some histogram) = member (codes "histogram") (histogram_json histogram) no_members

-- a column: its name, the number of its distinct values, and its histogram
abbrev pub column_json : ColumnInfo → Json
column_json column = object
    (member (codes "name") (string column.name)
    (member (codes "ndv") (number (decimal column.ndv))
    (histogram_member column.histogram)))

-- the name of the column at a place
abbrev pub name_at : List ColumnInfo → ℕ → List ℕ
name_at columns place = slice_index_or (names_of columns) place []

-- a list of columns, by their names
abbrev pub places_json : List ColumnInfo → List ℕ → Json
places_json columns places = list_json (λ place. string (name_at columns place)) places

-- where rows lie: the columns that are hashed, `random`, or `replicated`
abbrev pub placing_json : List ColumnInfo → Placing → Json
placing_json columns (Hashed places) = places_json columns places
placing_json columns Random = string (codes "random")
placing_json columns Replicated = string (codes "replicated")

-- the member for the indexes, where there are some
abbrev pub indexes_member : List ColumnInfo → List (List ℕ) → Members
indexes_member columns [] = no_members
indexes_member columns (index ∷ indexes) = member (codes "indexes")
    (list_json (places_json columns) (index ∷ indexes)) no_members

-- a table
abbrev pub table_json : TableInfo → Json
table_json table = object
    (member (codes "name") (string table.name)
    (member (codes "rows") (number (decimal table.rows))
    (member (codes "distribution") (placing_json table.columns table.placing)
    (member (codes "columns") (list_json column_json table.columns)
    (indexes_member table.columns table.indexes)))))

-- the version's number
abbrev pub version_number : CatalogVersion → ℕ
version_number One = 1
version_number Two = 2

-- the whole catalogue
abbrev pub catalog_json : CatalogVersion → Catalog → Json
catalog_json version catalog = object
    (member (codes "version") (number (decimal (version_number version)))
    (member (codes "segments") (number (decimal catalog.segments))
    (member (codes "tables") (list_json table_json catalog.tables)
    no_members)))

-- its text
abbrev pub catalog_text : CatalogVersion → Catalog → List ℕ
catalog_text version catalog = print (json_tokens (catalog_json version catalog))
