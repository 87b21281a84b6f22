-- What the nodes of a plan cost, in numbers of rows handled on the busiest segment. A number of rows is at
-- most 10^12, and a cost is capped at 10^15.
use Rattle.std.specs.Prelude.{ℕ, ◌+◌, ◌*◌, ◌-◌, ◌^◌, ◌≤◌, ◌<◌, min}
use Rattle.std.specs.Int.{div_ceil, leading_zeros, w64}
use Rattle.cost_units.specs.declared.shape.Class.{Class}
use Rattle.cost_units.specs.declared.shape.Class.TheVariants.{Spread, One, Copies}
use Rattle.cost_units.specs.declared.shape.CostShape.{CostShape}
use Rattle.cost_units.specs.declared.shape.CostShape.TheVariants.{Scan, IndexScan, IndexSeek, Filter, HashJoin}
use Rattle.cost_units.specs.declared.shape.CostShape.TheVariants.{MergeJoin, LoopJoin, HashAgg, StreamAgg, PartialAgg}
use Rattle.cost_units.specs.declared.shape.CostShape.TheVariants.{Sort, Gather, GatherMerge, Redistribute, Broadcast}

-- how many of the rows the busiest segment has: where they are shared out, an equal part, rounded up
abbrev pub share : ℕ → Class → ℕ → ℕ
share rows Spread segments = div_ceil rows segments
share rows One segments = rows
share rows Copies segments = rows

-- how many binary digits the number has: none for 0
abbrev pub bits : ℕ → ℕ
bits n = 64 - leading_zeros w64 n

-- the number has so many binary digits: they are enough for it, and it needs each of them
pub record HasDigits (number digits : ℕ) : Type 0 where
  pub enough : number < 2 ^ digits
  pub needed : 2 ^ digits ≤ 2 * number + 1

-- the rows that a node handles
abbrev pub work : CostShape → ℕ
work (Scan rows) = rows
work (IndexScan rows) = 2 * rows
work (IndexSeek out) = 3 * out
work (Filter rows) = rows
work (HashJoin left right out) = left + 2 * right + out
work (MergeJoin left right out) = left + right + out
work (LoopJoin left right) = left * right
work (HashAgg rows out) = 2 * rows + out
work (StreamAgg rows) = rows
work (PartialAgg rows) = 2 * rows
work (Sort rows) = rows * bits rows
work (Gather rows) = 2 * rows
work (GatherMerge rows) = 3 * rows
work (Redistribute rows) = 4 * rows
work (Broadcast rows) = 4 * rows

-- the rows that a node handles, and one more
abbrev pub effort : CostShape → ℕ
effort shape = work shape + 1

-- the most that a node is said to cost
abbrev pub most_cost : ℕ
most_cost = 10 ^ 15

-- the cost of one node
unfoldable pub local_cost : CostShape → ℕ
local_cost shape = min most_cost (effort shape)

-- the most rows that a group is said to have
abbrev pub most_rows : ℕ
most_rows = 10 ^ 12

-- the numbers of rows are such as a group can have
abbrev pub IsBounded : CostShape → Type 0
IsBounded (Scan rows) = rows ≤ most_rows
IsBounded (IndexScan rows) = rows ≤ most_rows
IsBounded (IndexSeek out) = out ≤ most_rows
IsBounded (Filter rows) = rows ≤ most_rows
IsBounded (HashJoin left right out) = (left ≤ most_rows) × (right ≤ most_rows) × (out ≤ most_rows)
IsBounded (MergeJoin left right out) = (left ≤ most_rows) × (right ≤ most_rows) × (out ≤ most_rows)
IsBounded (LoopJoin left right) = (left ≤ most_rows) × (right ≤ most_rows)
IsBounded (HashAgg rows out) = (rows ≤ most_rows) × (out ≤ most_rows)
IsBounded (StreamAgg rows) = rows ≤ most_rows
IsBounded (PartialAgg rows) = rows ≤ most_rows
IsBounded (Sort rows) = rows ≤ most_rows
IsBounded (Gather rows) = rows ≤ most_rows
IsBounded (GatherMerge rows) = rows ≤ most_rows
IsBounded (Redistribute rows) = rows ≤ most_rows
IsBounded (Broadcast rows) = rows ≤ most_rows
