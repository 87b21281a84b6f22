-- the wanted columns of the tables before the place are added
use Rattle.std.proofs.Common.{◌≡◌, ◌++◌, drop}
use Rattle.sql_bind.specs.Used.{used_from}
use Rattle.sql_bind.proofs.used.used_from.Given as goal

abbrev pub invariant-loop-source : goal.invariant-loop-source
invariant-loop-source l = record {
  counted : l.table ≡ l.source-index;
  added : l.used ++ used_from l.wanted.keys l.source-index (drop l.source-index l.sources) ≡ used_from l.wanted.keys 0
      l.sources;
}
