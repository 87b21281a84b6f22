-- What a plan costs.
use Rattle.std.specs.Prelude.{ℕ, ◌+◌, ◌*◌, List, [], ◌∷◌}
use Rattle.query_core.specs.declared.query.Query.{Query}
use Rattle.query_core.specs.declared.words.KeyParts.{KeyParts}
use Rattle.query_core.specs.declared.expressions.Physical.{Physical}
use Rattle.query_core.specs.declared.expressions.Physical.TheVariants as physical
use Rattle.query_core.specs.declared.expressions.PhysicalExpr.{PhysicalExpr}
use Rattle.cardinality.specs.Rows.{rows_of}
use Rattle.cost_units.specs.declared.shape.Class.{Class}
use Rattle.cost_units.specs.declared.shape.CostShape.{CostShape}
use Rattle.cost_units.specs.declared.shape.CostShape.TheVariants as shapes
use Rattle.cost_units.specs.Cost.{share, local_cost, most_cost}
use Rattle.plan_space.specs.Nodes.{Tree, leaf, over, two}
use Rattle.plan_space.specs.declared.nodes.NodeKind.{NodeKind}
use Rattle.plan_space.specs.declared.nodes.NodeKind.TheVariants as nodes
use Rattle.plan_space.specs.declared.nodes.Enforcer.{Enforcer}
use Rattle.plan_space.specs.declared.nodes.Enforcer.TheVariants as enforcers
use Rattle.plan_space.specs.declared.seen.Kid.{Kid}
use Rattle.plan_space.specs.Gives.{first_group, native_gives, kid_of}
use Rattle.request_props.specs.Dists.{class_of}

-- how many of a group's rows the busiest segment has
abbrev pub share_of : Query → KeyParts → Class → ℕ
share_of q group class = share (rows_of q group) class q.segments

-- how many rows of the first kid the busiest segment has
abbrev pub first_share : Query → List Kid → ℕ
first_share q [] = 0
first_share q (kid ∷ others) = share_of q kid.group (class_of kid.given.dist)

-- how many rows of the second kid the busiest segment has
abbrev pub second_share : Query → List Kid → ℕ
second_share q [] = 0
second_share q (kid ∷ others) = first_share q others

-- what an operator has to do where so many rows come in from the left and from the right and so many go out
abbrev pub operator_shape : Physical → ℕ → ℕ → ℕ → CostShape
operator_shape physical.Scan left right out = shapes.Scan out
operator_shape (physical.IndexScan index) left right out = shapes.IndexScan out
operator_shape (physical.Filter child) left right out = shapes.Filter left
operator_shape (physical.IndexSeek index) left right out = shapes.IndexSeek out
operator_shape (physical.HashJoin first second) left right out = shapes.HashJoin left right out
operator_shape (physical.MergeJoin first second) left right out = shapes.MergeJoin left right out
operator_shape (physical.LoopJoin first second) left right out = shapes.LoopJoin left right
operator_shape (physical.HashAgg child) left right out = shapes.HashAgg left out
operator_shape (physical.StreamAgg child) left right out = shapes.StreamAgg left
operator_shape (physical.PartialAgg child) left right out = shapes.PartialAgg left

-- what a physical expression has to do in a mode; each side's share is by its own distribution
abbrev pub native_shape : Query → PhysicalExpr → ℕ → List Kid → CostShape
native_shape q e mode kids =
    operator_shape e.operator (first_share q kids) (second_share q kids)
    (share_of q e.group (class_of (native_gives q e mode kids).dist))

-- what an enforcer has to do where the group has so many rows, and the busiest segment so many of them; a gather, a
-- merge and a broadcast handle all rows of the group
abbrev pub enforcer_work : Enforcer → ℕ → ℕ → CostShape
enforcer_work enforcers.Gather rows share = shapes.Gather rows
enforcer_work enforcers.Broadcast rows share = shapes.Broadcast rows
enforcer_work (enforcers.Sort order) rows share = shapes.Sort share
enforcer_work (enforcers.GatherMerge order) rows share = shapes.GatherMerge rows
enforcer_work (enforcers.Redistribute list) rows share = shapes.Redistribute share

-- what an enforcer has to do over its kid
abbrev pub enforcer_shape : Query → Enforcer → List Kid → CostShape
enforcer_shape q e kids = enforcer_work e (rows_of q (first_group kids)) (first_share q kids)

-- what a node has to do over its kids
abbrev pub shape_of : Query → NodeKind → List Kid → CostShape
shape_of q (nodes.Native e mode) kids = native_shape q e mode kids
shape_of q (nodes.Enforcer e) kids = enforcer_shape q e kids

-- the sum of the costs of the nodes
abbrev pub cost_of : Query → Tree → ℕ
cost_of q (leaf node) = local_cost (shape_of q node [])
cost_of q (over node kid) = local_cost (shape_of q node (kid_of q kid ∷ [])) + cost_of q kid
cost_of q (two node left right) =
    local_cost (shape_of q node (kid_of q left ∷ kid_of q right ∷ [])) + cost_of q left + cost_of q right

-- no least plan costs more, and no node over least plans
abbrev pub most_of_all : ℕ
most_of_all = most_cost * 16384
