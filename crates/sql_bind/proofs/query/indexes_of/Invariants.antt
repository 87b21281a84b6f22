-- the indexes before the place are numbered
use Rattle.std.proofs.Common.{◌≡◌, ◌++◌, drop}
use Rattle.sql_bind.specs.Query.{indexes_of}
use Rattle.sql_bind.proofs.query.indexes_of.Given as goal

abbrev pub invariant-loop-index : goal.invariant-loop-index
invariant-loop-index l = l.numbered ++ indexes_of l.used l.table (drop l.index-index l.indexes) ≡ indexes_of l.used
    l.table l.indexes
