-- what the tables before the place have was found, and the rest have the others
use Rattle.std.proofs.Common.{◌≡◌, ◌++◌, drop}
use Rattle.sql_bind.specs.Columns.{candidates}
use Rattle.sql_bind.proofs.columns.candidates.Given as goal

abbrev pub invariant-loop-source : goal.invariant-loop-source
invariant-loop-source l = record {
  counted : l.table ≡ l.source-index;
  found : l.found.items ++ candidates l.reference l.source-index (drop l.source-index l.sources) ≡ candidates
      l.reference 0 l.sources;
}
