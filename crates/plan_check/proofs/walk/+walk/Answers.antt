-- A plan is its root and the plans below that.
use Rattle.std.proofs.Common.{sym, ap, subst, ◌∙◌}
use Rattle.plan_tree.specs.declared.plan.Plan.{Plan}
use Rattle.plan_check.specs.Passes.{both_of, IsWalk}
use Rattle.plan_check.specs.declared.findings.Findings.{Findings}
use Rattle.plan_check.proofs.Walks.{leaf_walk, over_walk, two_walk}
use Rattle.plan_check.proofs.walk.+walk.Goals as goal

-- there is one node
pub returns-in-Leaf-clause-walked : goal.returns-in-Leaf-clause-walked
returns-in-Leaf-clause-walked t c =
    leaf_walk c.args.query.now c.args.plan.now c.in-Leaf.node c.node_walk.result c.in-Leaf.is c.node_walk.ensures.walked

-- the root stands over one plan
pub returns-in-Over-clause-walked : goal.returns-in-Over-clause-walked
returns-in-Over-clause-walked t c =
    let q = c.args.query.now in
    let own = c.node_walk-own.result in
    let below = subst (λ (p : Plan). IsWalk q p c.walk-only.result) c.deref.ensures c.walk-only.ensures.walked in
    subst (λ (f : Findings). IsWalk q c.args.plan.now (record { kid = own.kid; findings = f }))
    (sym c.both.ensures.value)
    (over_walk q c.args.plan.now c.in-Over.node _ c.in-Over.kid.value own c.walk-only.result c.in-Over.is
    c.node_walk-own.ensures.walked below)

-- the root stands over two plans
pub returns-in-Two-clause-walked : goal.returns-in-Two-clause-walked
returns-in-Two-clause-walked t c =
    let q = c.args.query.now in
    let own = c.node_walk-own-in-Two.result in
    let left = subst (λ (p : Plan). IsWalk q p c.walk-first.result) c.deref-in-Two.ensures
    c.walk-first.ensures.walked in
    let right = subst (λ (p : Plan). IsWalk q p c.walk-second.result) c.deref-in-Two-2.ensures
    c.walk-second.ensures.walked in
    let all = c.both-in-Two.ensures.value ∙ ap (both_of own.findings) c.both-below.ensures.value in
    subst (λ (f : Findings). IsWalk q c.args.plan.now (record { kid = own.kid; findings = f })) (sym all)
    (two_walk q c.args.plan.now c.in-Two.node _ c.in-Two.left.value _ c.in-Two.right.value own c.walk-first.result
    c.walk-second.result c.in-Two.is c.node_walk-own-in-Two.ensures.walked left right)
