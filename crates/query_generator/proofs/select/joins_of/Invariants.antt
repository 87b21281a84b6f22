-- the joins of the tables before the place are there
use Rattle.std.proofs.Common.{◌≡◌}
use Rattle.std.specs.List.{flat_map, range_with_len}
use Rattle.query_generator.specs.Select.{joins_of}
use Rattle.query_generator.proofs.select.joins_of.Given as goal

abbrev pub invariant-loop-i : goal.invariant-loop-i
invariant-loop-i l = l.joins ≡ flat_map (joins_of l.shape l.tables) (range_with_len 0 l.i)
