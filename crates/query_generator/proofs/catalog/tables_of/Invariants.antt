-- the tables before the place are made, by two draws each
use Rattle.std.proofs.Common.{◌≡◌, ◌*◌, map}
use Rattle.std.specs.List.{range_with_len}
use Rattle.query_generator.specs.Draws.{draw}
use Rattle.query_generator.specs.Catalog.{table_of}
use Rattle.query_generator.proofs.catalog.tables_of.Given as goal

abbrev pub invariant-loop-i : goal.invariant-loop-i
invariant-loop-i l = record {
  made : l.list ≡ map (table_of l.number) (range_with_len 0 l.i);
  drawn : l.draws ≡ draw l.number (2 * l.i);
}
