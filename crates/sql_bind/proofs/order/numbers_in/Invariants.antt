-- the columns before the place are kept, nothing twice
use Rattle.std.proofs.Common.{◌≡◌, ◌++◌, drop, map}
use Rattle.sql_bind.specs.Query.{distinct_by, group_numbers, itself}
use Rattle.sql_bind.specs.Numbers.{column_number}
use Rattle.sql_bind.proofs.Distinct.{others}
use Rattle.sql_bind.proofs.order.numbers_in.Given as goal

abbrev pub invariant-loop-column : goal.invariant-loop-column
invariant-loop-column l = l.kept.keys ++ others itself l.kept.keys
    (distinct_by itself (map (column_number l.used) (drop l.column-index l.group))) ≡ group_numbers l.used l.group
