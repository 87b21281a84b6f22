-- the columns of the indexes before the place are added
use Rattle.std.proofs.Common.{◌≡◌, ◌++◌, drop}
use Rattle.sql_bind.specs.Used.{indexed_by}
use Rattle.sql_bind.proofs.used.add_indexes.Given as goal

abbrev pub invariant-loop-index : goal.invariant-loop-index
invariant-loop-index l = l.wanted.items ++ indexed_by l.table
    (drop l.index-index l.indexes) ≡ l.fn.wanted.items ++ indexed_by l.table l.indexes
