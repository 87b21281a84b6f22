use Rattle.std.proofs.Common.{◌≡◌, ℕ, Some, None, subst}
use Rattle.query_core.specs.declared.expressions.PhysicalExpr.{PhysicalExpr}
use Rattle.plan_space.specs.declared.nodes.Enforcer.{Enforcer}
use Rattle.plan_space.specs.declared.nodes.NodeKind.{NodeKind}
use Rattle.plan_space.specs.declared.nodes.NodeKind.TheVariants as nodes
use Rattle.plan_tree.specs.Costs.{IsCostAmong}
use Rattle.plan_tree.proofs.cost.enforcer_cost_by.Goals as goal

same_enforcer : (kind : NodeKind) (a b : Enforcer) → kind ≡ nodes.Enforcer a → Some kind ≡ Some (nodes.Enforcer b)
    → a ≡ b
same_enforcer kind a b here there = cc

not_native : (kind : NodeKind) (e : PhysicalExpr) (mode : ℕ) (b : Enforcer) → kind ≡ nodes.Native e mode
    → Some kind ≡ Some (nodes.Enforcer b) → ⊥
not_native kind e mode b here there = cc

none_is_no_kind : (kind : NodeKind) → None ≡ Some kind → ⊥
none_is_no_kind kind is = cc

-- the node's number is that of this enforcer
pub returns-in-Some-Enforcer-clause-value : goal.returns-in-Some-Enforcer-clause-value
returns-in-Some-Enforcer-clause-value c = λ g e rows is.
    let same = same_enforcer _ c.in-Some-Enforcer.enforcer e c.in-Some-Enforcer.field-0-is
    ((c.in-Some-Enforcer.ensures.exact (nodes.Enforcer e)).0 is) in
    subst (λ (x : Enforcer). IsCostAmong c.args.query.now x g c.args.request c.cost_among.result) same
    (c.cost_among.ensures.value g rows)

-- and of no expression
pub returns-in-Some-Native-clause-value : goal.returns-in-Some-Native-clause-value
returns-in-Some-Native-clause-value c = λ g e rows is.
    absurd (not_native _ _ _ e c.in-Some-Native.field-0-is ((c.in-Some-Native.ensures.exact (nodes.Enforcer e)).0 is))

pub returns-in-None-clause-value : goal.returns-in-None-clause-value
returns-in-None-clause-value c = λ g e rows is.
    absurd (none_is_no_kind _ ((c.in-None.ensures.exact (nodes.Enforcer e)).0 is))
