-- the columns that were moved, and then those that are left in the map
use Rattle.std.proofs.Common.{◌≡◌, ◌++◌, map}
use Rattle.catalog_json.specs.Columns.{column_of}
use Rattle.catalog_json.proofs.column.Columns.into_list.Given as goal

abbrev pub invariant-loop-name : goal.invariant-loop-name
invariant-loop-name l = l.list ++ map column_of l.name-iterator ≡ map column_of l.initial.name-iterator
