-- What the columns of a table that are being read stand for.
use Rattle.std.specs.Prelude.{ℕ, List, map, String, string_bytes}
use Rattle.std.specs.declared.alloc.Global.{Global}
use Rattle.query_core.specs.declared.catalog.ColumnInfo.{ColumnInfo}
use Rattle.catalog_json.specs.declared.column.ColumnValues.{ColumnValues}

-- the column with a name and what is known of its values
abbrev pub column_of : String Global × ColumnValues → ColumnInfo
column_of entry = record { name = string_bytes entry.0; ndv = entry.1.ndv; histogram = entry.1.histogram }

-- the columns' names
abbrev pub names_of : List ColumnInfo → List (List ℕ)
names_of columns = map (λ c. c.name) columns
