-- The numbers of items: the used columns first, and the aggregates after them.
use Rattle.std.specs.Prelude.{ℕ, suc, List, [], ◌∷◌, ◌+◌, length, map, if◌then◌else◌}
use Rattle.sql_bind.specs.declared.columns.Column.{Column}
use Rattle.sql_bind.specs.declared.sort_keys.Target.{Target}
use Rattle.sql_bind.specs.declared.sort_keys.Target.TheVariants as targets
use Rattle.sql_bind.specs.Columns.{column, is_same}
use Rattle.sql_bind.specs.Used.{UsedColumn}

-- how many used columns come before this one
abbrev pub column_number : List UsedColumn → Column → ℕ
column_number [] c = 0
column_number (u ∷ us) c = if is_same u.which c then 0 else suc (column_number us c)

-- the numbers of the columns at these places of a table
abbrev pub numbers_of : List UsedColumn → ℕ → List ℕ → List ℕ
numbers_of used table places = map (λ place. column_number used (column table place)) places

-- the number of a column, or of an aggregate, which come after the columns
abbrev pub target_number : List UsedColumn → Target → ℕ
target_number used (targets.Column c) = column_number used c
target_number used (targets.Aggregate number) = length used + number
