-- What it says that a reference means a column, without an order of work.
use Rattle.std.specs.Prelude.{◌≡◌, ◌≢◌, List, Some, Ok, Err, Result, slice_get}
use Rattle.sql_reader.specs.declared.syntax.ColRef.{ColRef}
use Rattle.sql_bind.specs.declared.fault.BindFault.{BindFault}
use Rattle.sql_bind.specs.declared.fault.BindFault.TheVariants.{UnknownTable, TwiceAlias, UnknownColumn, Ambiguous}
use Rattle.sql_bind.specs.declared.fault.BindFault.TheVariants.{NotGrouped, TooManyItems, Memory}
use Rattle.sql_bind.specs.declared.columns.Column.{Column}
use Rattle.sql_bind.specs.Scope.{FromTable}
use Rattle.sql_bind.specs.Columns.{place_in}

-- the reference can name the column: its table has it under this name, and goes by the part before the point, if there
-- is one
pub record NamesColumn (scope : List FromTable) (reference : ColRef) (c : Column) : Type 0 where
  pub table : FromTable
  pub here : slice_get scope c.table ≡ Some table
  pub named : place_in reference table ≡ Some c.place

-- the one column that can be named
pub record IsOnly (scope : List FromTable) (reference : ColRef) (c : Column) : Type 0 where
  pub named : NamesColumn scope reference c
  pub alone : (d : Column) → NamesColumn scope reference d → d ≡ c

-- two different columns can be named
pub record AreTwo (scope : List FromTable) (reference : ColRef) (c d : Column) : Type 0 where
  pub first : NamesColumn scope reference c
  pub second : NamesColumn scope reference d
  pub apart : c ≢ d

-- a reference means the one column that it can name; it is unknown where it can name none, and ambiguous where it can
-- name two
abbrev pub IsMeaning : List FromTable → ColRef → Result Column BindFault → Type 0
IsMeaning scope reference (Ok c) = IsOnly scope reference c
IsMeaning scope reference (Err (UnknownColumn at)) = (at ≡ reference.at)
    × ((c : Column) → NamesColumn scope reference c → ⊥)
IsMeaning scope reference (Err (Ambiguous at)) = (at ≡ reference.at)
    × ((c : Column) × (d : Column) × AreTwo scope reference c d)
IsMeaning scope reference (Err (UnknownTable at)) = ⊥
IsMeaning scope reference (Err (TwiceAlias at)) = ⊥
IsMeaning scope reference (Err (NotGrouped at)) = ⊥
IsMeaning scope reference (Err (TooManyItems found)) = ⊥
IsMeaning scope reference (Err Memory) = ⊥
