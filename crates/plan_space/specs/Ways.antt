-- How physical operators work: the one row of each, from which all that is said of lines follows.
use Rattle.query_core.specs.declared.expressions.Access.TheVariants.{Direct, Index}
use Rattle.query_core.specs.declared.expressions.Physical.{Physical}
use Rattle.query_core.specs.declared.expressions.Physical.TheVariants as physical
use Rattle.plan_space.specs.declared.ways.Kept.TheVariants.{Rows, SpreadRows}
use Rattle.plan_space.specs.declared.ways.JoinBy.TheVariants as joins
use Rattle.plan_space.specs.declared.ways.GroupBy.TheVariants as grouping
use Rattle.plan_space.specs.declared.ways.Way.{Way}
use Rattle.plan_space.specs.declared.ways.Way.TheVariants.{Reads, Passes, Joins, Groups}

-- an operator's way of working
abbrev pub way_of : Physical → Way
way_of physical.Scan = Reads Direct
way_of (physical.IndexScan index) = Reads (Index index)
way_of (physical.Filter child) = Passes Rows child
way_of (physical.IndexSeek index) = Reads (Index index)
way_of (physical.HashJoin left right) = Joins joins.Hashing left right
way_of (physical.MergeJoin left right) = Joins joins.Merging left right
way_of (physical.LoopJoin left right) = Joins joins.Looping left right
way_of (physical.HashAgg child) = Groups grouping.Hashing child
way_of (physical.StreamAgg child) = Groups grouping.Ordered child
way_of (physical.PartialAgg child) = Passes SpreadRows child
