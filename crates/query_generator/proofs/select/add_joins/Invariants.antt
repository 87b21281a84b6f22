-- the joins with the tables before the place are added
use Rattle.std.proofs.Common.{◌≡◌, ◌+◌, ◌-◌, ◌++◌, map, filter}
use Rattle.std.specs.List.{range_with_len}
use Rattle.query_generator.specs.Select.{is_joined, join_of}
use Rattle.query_generator.proofs.select.add_joins.Given as goal

abbrev pub invariant-loop-j : goal.invariant-loop-j
invariant-loop-j l = l.joins ≡ l.initial.joins
    ++ map (join_of l.i) (filter (is_joined l.shape l.i) (range_with_len (l.i + 1) (l.j - (l.i + 1))))
