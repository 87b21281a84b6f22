use Rattle.std.proofs.Common.{◌≡◌, Some, sym, ap, ◌∙◌, subst}
use Rattle.xform_rules.specs.Closure.{IsMember}
use Rattle.plan_space.specs.Nodes.{over}
use Rattle.plan_space.specs.Least.{IsLeast}
use Rattle.plan_space.specs.declared.nodes.NodeKind.TheVariants.{Native, Enforcer}
use Rattle.plan_tree.specs.Seen.{root_node}
use Rattle.goal_space.specs.Ranks.{rank_of}
use Rattle.plan_report.specs.PlansAsked.{IsLower, goal_of}
use Rattle.plan_report.proofs.Rooted.{enforced_root, chosen_rooted}
use Rattle.plan_report.proofs.PlansAsked.{enforcer_lower}
use Rattle.plan_report.proofs.plans_asked.plans_asked_at.Goals as goal

pub plans_asked_by-requires-clause-rooted : goal.plans_asked_by-requires-clause-rooted
plans_asked_by-requires-clause-rooted c =
    let q = c.args.query.now in
    let plan = c.requires.chosen.0 in
    let kind = Native c.in-Some-Native.expr c.in-Some-Native.mode in
    let is : c.kind.result ≡ Some kind = cc in
    (plan, chosen_rooted q c.args.at plan c.args.node kind c.kind.result c.kind.ensures.exact is c.requires.chosen.1)

pub returns-in-Some-Native-clause-over : goal.returns-in-Some-Native-clause-over
returns-in-Some-Native-clause-over c plan chosen =
    let q = c.args.query.now in
    let kind = Native c.in-Some-Native.expr c.in-Some-Native.mode in
    let is : c.kind.result ≡ Some kind = cc in
    c.plans_asked_by.ensures.over plan
    (chosen_rooted q c.args.at plan c.args.node kind c.kind.result c.kind.ensures.exact
    is chosen)

-- the enforcer asks for what one of those for the request does
pub returns-in-Some-Enforcer-clause-over : goal.returns-in-Some-Enforcer-clause-over
returns-in-Some-Enforcer-clause-over c plan chosen =
    let q = c.args.query.now in
    let kind = Enforcer c.in-Some-Enforcer.enforcer in
    let is : c.kind.result ≡ Some kind = cc in
    let root = enforced_root q c.args.at plan c.in-Some-Enforcer.enforcer
    (chosen_rooted q c.args.at plan c.args.node kind c.kind.result c.kind.ensures.exact is chosen) in
    let asks = c.asked_by.ensures.only root.e root.among root.node in (
      root.kid,
      subst (λ r. IsLeast (IsMember q) q c.args.at.group r root.kid) asks root.least,
      root.is
          ∙ ap (λ n. over n root.kid) (sym (ap root_node root.is)),
    )

pub returns-in-Some-Enforcer-clause-lower : goal.returns-in-Some-Enforcer-clause-lower
returns-in-Some-Enforcer-clause-lower c =
    let q = c.args.query.now in
    let kind = Enforcer c.in-Some-Enforcer.enforcer in
    let is : c.kind.result ≡ Some kind = cc in
    let plan = c.requires.chosen.0 in
    let root = enforced_root q c.args.at plan c.in-Some-Enforcer.enforcer
    (chosen_rooted q c.args.at plan c.args.node kind c.kind.result c.kind.ensures.exact is c.requires.chosen.1) in
    let asks = c.asked_by.ensures.only root.e root.among root.node in
    subst (λ r. IsLower q (rank_of (goal_of c.args.at)) (record { group = c.args.at.group; wanted = r })) asks
    (enforcer_lower q (c.ranks_fall.ensures.closure q) c.args.at c.requires.goal
    (c.goals_are_known.ensures.candidates q (goal_of c.args.at) c.requires.goal) root.e
    (c.goals_are_known.ensures.requests q (goal_of c.args.at) c.requires.goal) root.among)
