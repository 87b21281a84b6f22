-- The nodes of a query.
use Rattle.std.specs.Prelude.{ℕ, ◌≤◌, ⊤}
use Rattle.std.specs.Option.{IsSome}
use Rattle.query_core.specs.Expressions.{expr_of, IsCandidate}
use Rattle.query_core.specs.declared.query.Query.{Query}
use Rattle.query_core.specs.declared.expressions.PhysicalExpr.{PhysicalExpr}
use Rattle.request_props.specs.Numbered.{IsList, IsNumbered}
use Rattle.plan_space.specs.declared.nodes.Enforcer.{Enforcer}
use Rattle.plan_space.specs.declared.nodes.Enforcer.TheVariants as enforcers
use Rattle.plan_space.specs.declared.nodes.NodeKind.{NodeKind}
use Rattle.plan_space.specs.declared.nodes.NodeKind.TheVariants as nodes
use Rattle.plan_space.specs.Lines.{line_of}
use Rattle.plan_tree.specs.Nodes.{IsNode}
use Rattle.plan_tree.specs.declared.node.Node.{Node}

-- the query has the order, which isn't the empty one
pub record IsOrder (q : Query) (order : ℕ) : Type 0 where
  pub not_empty : 1 ≤ order
  pub numbered : IsNumbered q order

-- what the enforcer sorts or moves by is an order or a list of the query
abbrev pub IsEnforcerOf : Query → Enforcer → Type 0
IsEnforcerOf q enforcers.Gather = ⊤
IsEnforcerOf q enforcers.Broadcast = ⊤
IsEnforcerOf q (enforcers.Sort order) = IsOrder q order
IsEnforcerOf q (enforcers.GatherMerge order) = IsOrder q order
IsEnforcerOf q (enforcers.Redistribute list) = IsList q list

-- an expression that a group of the query can hold, in a mode that it has
pub record IsNativeOf (q : Query) (e : PhysicalExpr) (mode : ℕ) : Type 0 where
  pub candidate : IsCandidate q (expr_of e)
  pub has_line : IsSome (line_of q e mode)

-- such an expression, or an enforcer by an order or a list of the query
abbrev pub IsKindOf : Query → NodeKind → Type 0
IsKindOf q (nodes.Native e mode) = IsNativeOf q e mode
IsKindOf q (nodes.Enforcer e) = IsEnforcerOf q e

-- the number is that of a node of the query
abbrev pub IsNodeOf : Query → Node → Type 0
IsNodeOf q node = (kind : NodeKind) × IsNode node kind × IsKindOf q kind
