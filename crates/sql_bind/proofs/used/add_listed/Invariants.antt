-- the columns listed by the tables before the place are added
use Rattle.std.proofs.Common.{◌≡◌, ◌++◌, drop}
use Rattle.sql_bind.specs.Used.{listed_from}
use Rattle.sql_bind.proofs.used.add_listed.Given as goal

abbrev pub invariant-loop-source : goal.invariant-loop-source
invariant-loop-source l = record {
  counted : l.table ≡ l.source-index;
  added : l.wanted.items ++ listed_from l.source-index
      (drop l.source-index l.sources) ≡ l.fn.wanted.items ++ listed_from 0 l.sources;
}
