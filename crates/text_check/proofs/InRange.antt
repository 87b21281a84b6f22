-- The nodes of a query have numbers.
use Rattle.std.proofs.Common.{◌≤◌, length, arith}
use Rattle.query_core.specs.Expressions.{IsCandidate, IsPacked, expr_of}
use Rattle.query_core.specs.declared.expressions.ExprParts.{ExprParts}
use Rattle.query_core.specs.declared.query.Query.{Query}
use Rattle.request_props.specs.Numbered.{lists_of, orders_of}
use Rattle.plan_space.specs.declared.nodes.Enforcer.{Enforcer}
use Rattle.plan_space.specs.declared.nodes.Enforcer.TheVariants as enforcers
use Rattle.plan_space.specs.declared.nodes.NodeKind.{NodeKind}
use Rattle.plan_space.specs.declared.nodes.NodeKind.TheVariants as nodes
use Rattle.plan_tree.specs.Nodes.{EnforcerInRange, IsNodeInRange}
use Rattle.plan_check.specs.Nodes.{IsEnforcerOf, IsKindOf}
use Rattle.text_check.specs.Grown.{HasMode}

module _ (q : Query) (few_lists : length (lists_of q) ≤ 60) (few_orders : length (orders_of q) ≤ 60) where
  enforcer_range : (e : Enforcer) → IsEnforcerOf q e → EnforcerInRange e
  enforcer_range enforcers.Gather is = tt
  enforcer_range enforcers.Broadcast is = tt
  enforcer_range (enforcers.Sort o) is =
      let numbered = is.numbered in
      record { some = is.not_empty; few = omega (arith, numbered, few_orders) }
  enforcer_range (enforcers.GatherMerge o) is =
      let numbered = is.numbered in
      record { some = is.not_empty; few = omega (arith, numbered, few_orders) }
  enforcer_range (enforcers.Redistribute h) is = omega (arith, is, few_lists)

  pub node_range : ((e : ExprParts) → IsCandidate q e → IsPacked e) → (node : NodeKind) → IsKindOf q node → HasMode node
      → IsNodeInRange node
  node_range packed (nodes.Native e mode) is few = record { packed = packed (expr_of e) is.candidate; few = few }
  node_range packed (nodes.Enforcer e) is few = enforcer_range e is
