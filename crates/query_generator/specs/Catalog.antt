-- The catalogue of a number.
use Rattle.std.specs.Prelude.{ℕ, ◌+◌, ◌*◌, ◌%◌, ◌==◌, List, [], ◌∷◌, ◌++◌, None, map, codes, decimal}
use Rattle.std.specs.Prelude.{if◌then◌else◌}
use Rattle.std.specs.List.{range_with_len}
use Rattle.query_core.specs.declared.catalog.ColumnInfo.{ColumnInfo}
use Rattle.query_core.specs.declared.catalog.Placing.{Placing}
use Rattle.query_core.specs.declared.catalog.Placing.TheVariants.{Hashed, Random}
use Rattle.query_core.specs.declared.catalog.TableInfo.{TableInfo}
use Rattle.query_core.specs.declared.catalog.Catalog.{Catalog}
use Rattle.query_generator.specs.Draws.{draw}

-- the name of table i: `t` and its number
abbrev pub table_name : ℕ → List ℕ
table_name i = codes "t" ++ decimal i

-- the tables at even places are hashed on their first column
abbrev pub placing_of : ℕ → Placing
placing_of i = if i % 2 == 0 then Hashed (0 ∷ []) else Random

-- the columns: an `id` for each row, and `f` with so many values
abbrev pub columns_with : ℕ → ℕ → List ColumnInfo
columns_with rows values = record { name = codes "id"; ndv = rows; histogram = None } ∷ record
    { name = codes "f"; ndv = values; histogram = None } ∷ []

-- table i, of so many rows, with so many values of `f`
abbrev pub table_with : ℕ → ℕ → ℕ → TableInfo
table_with i rows values = record {
  name = table_name i;
  rows = rows;
  placing = placing_of i;
  columns = columns_with rows values;
  indexes = [];
}

-- table i, by two draws: a hundred rows for the first, and 1 to 1000 values by the second
abbrev pub table_of : ℕ → ℕ → TableInfo
table_of number i = table_with i (100 * draw number (2 * i + 1)) (1 + draw number (2 * i + 2) % 1000)

-- the catalogue of a number, with so many tables
abbrev pub catalog_of : ℕ → ℕ → Catalog
catalog_of number tables = record { segments = 4; tables = map (table_of number) (range_with_len 0 tables) }
