-- the tables before the place are in the scope under their aliases, and the rest come after them
use Rattle.std.proofs.Common.{◌≡◌, [], drop}
use Rattle.sql_bind.specs.Steps.{each}
use Rattle.sql_bind.specs.Scope.{aliases, from_table}
use Rattle.sql_bind.proofs.scope.sources_of.Given as goal

abbrev pub invariant-loop-item : goal.invariant-loop-item
invariant-loop-item l = record {
  named : l.names ≡ aliases l.scope;
  bound : each (from_table l.catalog) l.scope (drop l.item-index l.from) ≡ each (from_table l.catalog) [] l.from;
}
