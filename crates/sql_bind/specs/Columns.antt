-- Which column of which table a reference means.
use Rattle.std.specs.Prelude.{ℕ, Bool, true, List, [], ◌∷◌, ◌+◌, ◌&&◌, ◌==◌, Option, None, Some, Ok, Err, option_map}
use Rattle.std.specs.Prelude.{map, position, option_to_list, ◌++◌, if◌then◌else◌}
use Rattle.std.specs.List.{list_any}
use Rattle.std.specs.Str.{bytes_eq}
use Rattle.sql_reader.specs.declared.syntax.ColRef.{ColRef}
use Rattle.sql_bind.specs.declared.fault.BindFault.TheVariants.{UnknownColumn, Ambiguous}
use Rattle.sql_bind.specs.declared.columns.Column.{Column}
use Rattle.sql_bind.specs.Steps.{Binding, each}
use Rattle.sql_bind.specs.Scope.{FromTable}

-- the column at a place of the table at a place of FROM
abbrev pub column : ℕ → ℕ → Column
column table place = record { table = table; place = place }

abbrev pub is_same : Column → Column → Bool
is_same a b = a.table == b.table && a.place == b.place

-- the column is one of these
abbrev pub is_among : List Column → Column → Bool
is_among columns c = list_any (is_same c) columns

-- the part before the point, if any, is the alias
abbrev pub belongs_to : Option (List ℕ) → List ℕ → Bool
belongs_to None alias = true
belongs_to (Some name) alias = bytes_eq name alias

-- the place in the table of the column that is named
abbrev pub place_in : ColRef → FromTable → Option ℕ
place_in reference t = if belongs_to reference.table t.alias then position (bytes_eq reference.name)
    (map (λ c. c.name) t.info.columns) else None

-- each column that the reference can mean, in tables that begin at this place of FROM
abbrev pub candidates : ColRef → ℕ → List FromTable → List Column
candidates reference table [] = []
candidates reference table (t ∷ ts) = option_to_list (option_map (column table) (place_in reference t)) ++ candidates
    reference (table + 1) ts

-- a reference at this place means the one column that it can mean
abbrev pub only_one : ℕ → List Column → Binding Column
only_one at [] = Err (UnknownColumn at)
only_one at (c ∷ []) = Ok c
only_one at (c ∷ d ∷ ds) = Err (Ambiguous at)

-- the column that a reference means
abbrev pub column_of : List FromTable → ColRef → Binding Column
column_of scope reference = only_one reference.at (candidates reference 0 scope)

-- the columns that references mean
abbrev pub columns_of : List FromTable → List ColRef → Binding (List Column)
columns_of scope references = each (λ before reference. column_of scope reference) [] references
