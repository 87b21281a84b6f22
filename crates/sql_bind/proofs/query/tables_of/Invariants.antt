-- the tables before the place are made
use Rattle.std.proofs.Common.{◌≡◌, ◌++◌, drop}
use Rattle.sql_bind.specs.Query.{tables_from}
use Rattle.sql_bind.proofs.query.tables_of.Given as goal

abbrev pub invariant-loop-source : goal.invariant-loop-source
invariant-loop-source l = record {
  counted : l.table ≡ l.source-index;
  made : l.tables ++ tables_from l.used l.source-index (drop l.source-index l.sources) ≡ tables_from l.used 0 l.sources;
}
