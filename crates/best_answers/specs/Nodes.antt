-- Sets of nodes that may stand at the root of a plan.
use Rattle.std.specs.Prelude.{◌≡◌, ◌⊎◌, ⊤}
use Rattle.query_core.specs.declared.expressions.PhysicalExpr.{PhysicalExpr}
use Rattle.plan_space.specs.declared.nodes.NodeKind.{NodeKind}
use Rattle.plan_space.specs.declared.nodes.NodeKind.TheVariants as nodes

-- no node, one node, an expression in all its modes, the nodes of two sets, and all nodes
pub data Nodes : Type 0 where
  no_nodes : Nodes
  one_node : NodeKind → Nodes
  modes_of : PhysicalExpr → Nodes
  both_of : Nodes → Nodes → Nodes
  all_nodes : Nodes

-- the node is an expression in a mode
abbrev pub IsModeOf : PhysicalExpr → NodeKind → Type 0
IsModeOf e (nodes.Native other mode) = other ≡ e
IsModeOf e (nodes.Enforcer enforcer) = ⊥

-- the node is in the set
abbrev pub IsIn : Nodes → NodeKind → Type 0
IsIn no_nodes node = ⊥
IsIn (one_node only) node = node ≡ only
IsIn (modes_of e) node = IsModeOf e node
IsIn (both_of some others) node = IsIn some node ⊎ IsIn others node
IsIn all_nodes node = ⊤
