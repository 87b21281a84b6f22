-- What is said of operators by their ways of working.
use Rattle.std.proofs.Common.{ℕ, ◌≡◌, ◌⊎◌, inl, inr, arith}
use Rattle.query_core.specs.Expressions.{physical_children, HasPhysical, IsFiltered, IsPartial, IsJoin, IsAggregated}
use Rattle.query_core.specs.declared.query.Query.{Query}
use Rattle.query_core.specs.declared.words.KeyParts.{KeyParts}
use Rattle.query_core.specs.declared.words.KeyParts.TheVariants as groups
use Rattle.query_core.specs.declared.expressions.Children.{Children}
use Rattle.query_core.specs.declared.expressions.Children.TheVariants.{Zero, One, Two}
use Rattle.query_core.specs.declared.expressions.Physical.{Physical}
use Rattle.query_core.specs.declared.expressions.Physical.TheVariants as physical
use Rattle.plan_space.specs.Ways.{way_of}
use Rattle.plan_space.specs.declared.ways.Kept.TheVariants.{Rows, SpreadRows}
use Rattle.plan_space.specs.declared.ways.Way.{Way}
use Rattle.plan_space.specs.declared.ways.Way.TheVariants.{Reads, Passes, Joins, Groups}

-- the groups that a way stands on
abbrev pub way_children : Way → Children
way_children (Reads access) = Zero
way_children (Passes kept child) = One child
way_children (Joins by left right) = Two left right
way_children (Groups by child) = One child

-- what holds of a group that can have an operator which works so
abbrev pub WayShape : Query → KeyParts → Way → Type 0
WayShape q group (Reads access) = (t : ℕ) × ((group ≡ groups.Get t) ⊎ (group ≡ groups.Filter t))
WayShape q group (Passes Rows child) = IsFiltered group child
WayShape q group (Passes SpreadRows child) = IsPartial q group child
WayShape q group (Joins by left right) = IsJoin q group left right
WayShape q group (Groups by child) = IsAggregated q group child

-- an operator stands on the groups on which its way stands
pub children_same : (o : Physical) → physical_children o ≡ way_children (way_of o)
children_same o = grind arith

-- a group that can have an operator is as its way says
pub way_shape : (q : Query) (group : KeyParts) (o : Physical) → HasPhysical q group o → WayShape q group (way_of o)
way_shape q group physical.Scan ((t, is), direct) = (t, inl is)
way_shape q group (physical.IndexScan index) ((t, is), there) = (t, inl is)
way_shape q group (physical.Filter child) shape = shape.0
way_shape q group (physical.IndexSeek index) ((t, is, under), there) = (t, inr is)
way_shape q group (physical.HashJoin left right) shape = shape.0
way_shape q group (physical.MergeJoin left right) shape = shape.0
way_shape q group (physical.LoopJoin left right) shape = shape.0
way_shape q group (physical.HashAgg child) shape = shape.0
way_shape q group (physical.StreamAgg child) shape = shape.0
way_shape q group (physical.PartialAgg child) shape = shape.0
