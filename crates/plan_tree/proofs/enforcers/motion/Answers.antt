use Rattle.std.proofs.Common.{◌≡◌, Some, rules, subst, sym, ◌∙◌}
use Rattle.plan_space.specs.declared.nodes.Enforcer.{Enforcer}
use Rattle.plan_space.specs.declared.nodes.NodeKind.TheVariants as nodes
use Rattle.plan_space.specs.Enforcers.{below_of, motion_to, moving}
use Rattle.plan_space.proofs.MotionLaws.{motion_asks}
use Rattle.plan_tree.specs.Enforcers.{LiesIn}
use Rattle.plan_tree.specs.Nodes.{IsNode}
use Rattle.plan_tree.proofs.Kept.{motion_fits}
use Rattle.plan_tree.proofs.enforcers.motion.Goals as goal

-- the motion, over rows that are shared out
pub returns-else-not-lies_in : goal.returns-else-not-lies_in
returns-else-not-lies_in c =
    let motion = c.in-Some.motion in
    let moves : motion_to c.args.request.dist ≡ Some motion = sym c.motion_to.ensures ∙ c.in-Some.is in
    let lies : LiesIn c.args.query.now c.args.group (moving motion) = search rules in
    motion_fits c.args.query.now c.args.group c.args.request.dist motion c.over.result moves lies
    (subst (λ (e : Enforcer). IsNode c.over.result.node (nodes.Enforcer e)) c.moving.ensures c.over.ensures.node)
    (subst (λ (e : Enforcer). c.over.result.below ≡ below_of e c.args.request) c.moving.ensures c.over.ensures.below
    ∙ motion_asks motion c.args.request)
