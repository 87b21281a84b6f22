-- the columns before the place are there, and no other ones
use Rattle.std.proofs.Common.{◌≡◌, take}
use Rattle.sql_bind.specs.declared.columns.Column.{Column}
use Rattle.sql_bind.specs.Columns.{is_among}
use Rattle.sql_bind.proofs.used.set_of.Given as goal

abbrev pub invariant-loop-column : goal.invariant-loop-column
invariant-loop-column l = (q : Column) → is_among l.set.keys q ≡ is_among (take l.column-index l.columns) q
