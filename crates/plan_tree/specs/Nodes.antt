-- The nodes that have a number.
use Rattle.std.specs.Prelude.{ℕ, ◌≡◌, ◌≤◌, ◌<◌, ⊤}
use Rattle.query_core.specs.Expressions.{IsPacked, expr_of}
use Rattle.query_core.specs.declared.expressions.PhysicalExpr.{PhysicalExpr}
use Rattle.plan_space.specs.Nodes.{node_number, node_modes}
use Rattle.plan_space.specs.declared.nodes.Enforcer.{Enforcer}
use Rattle.plan_space.specs.declared.nodes.Enforcer.TheVariants.{Gather, Broadcast, Sort, GatherMerge, Redistribute}
use Rattle.plan_space.specs.declared.nodes.NodeKind.{NodeKind}
use Rattle.plan_space.specs.declared.nodes.NodeKind.TheVariants as nodes
use Rattle.plan_tree.specs.declared.node.Node.{Node}

-- the expression has a word, and the mode is one of those that a node's number can name
pub record NativeInRange (expr : PhysicalExpr) (mode : ℕ) : Type 0 where
  pub packed : IsPacked (expr_of expr)
  pub few : mode < node_modes

-- the order is one of the 60 that a node's number can name
pub record OrderInRange (order : ℕ) : Type 0 where
  pub some : 1 ≤ order
  pub few : order ≤ 60

-- the order or the list is one of those that a node's number can name
abbrev pub EnforcerInRange : Enforcer → Type 0
EnforcerInRange Gather = ⊤
EnforcerInRange Broadcast = ⊤
EnforcerInRange (Sort order) = OrderInRange order
EnforcerInRange (GatherMerge order) = OrderInRange order
EnforcerInRange (Redistribute list) = list < 60

-- the node has a number that no other node has
abbrev pub IsNodeInRange : NodeKind → Type 0
IsNodeInRange (nodes.Native expr mode) = NativeInRange expr mode
IsNodeInRange (nodes.Enforcer enforcer) = EnforcerInRange enforcer

-- the program's node is this one
pub record IsNode (node : Node) (kind : NodeKind) : Type 0 where
  pub number : node.0 ≡ node_number kind
  pub in_range : IsNodeInRange kind
