-- the tables before the place are there
use Rattle.std.proofs.Common.{◌≡◌, map}
use Rattle.std.specs.List.{range_with_len}
use Rattle.query_generator.specs.Select.{from_of}
use Rattle.query_generator.proofs.select.tables_of.Given as goal

abbrev pub invariant-loop-i : goal.invariant-loop-i
invariant-loop-i l = l.from ≡ map from_of (range_with_len 0 l.i)
