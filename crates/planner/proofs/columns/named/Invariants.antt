use Rattle.std.proofs.Common.{◌≡◌, map, take}
use Rattle.planner.specs.Columns.{column_at}
use Rattle.planner.proofs.columns.named.Given as goal

-- the columns before this one are named
abbrev pub invariant-loop-number : goal.invariant-loop-number
invariant-loop-number l = l.columns ≡ map (column_at l.query) (take l.number-index l.numbers)
