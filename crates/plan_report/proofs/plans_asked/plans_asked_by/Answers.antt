use Rattle.std.proofs.Common.{◌≡◌, Some, sym, ◌∙◌, subst}
use Rattle.query_core.specs.Expressions.{expr_of, physical_children}
use Rattle.plan_space.specs.Alternatives.{asked_of}
use Rattle.plan_space.specs.Choices.{groups_of}
use Rattle.plan_space.specs.declared.nodes.NodeKind.TheVariants.{Native}
use Rattle.plan_report.specs.PlansAsked.{ArePlansAsked, goal_of}
use Rattle.plan_report.proofs.Rooted.{native_root}
use Rattle.plan_report.proofs.PlansAsked.{over_asked, native_lower}
use Rattle.plan_report.proofs.plans_asked.plans_asked_by.Goals as goal

pub alternative_in-requires-clause-candidate : goal.alternative_in-requires-clause-candidate
alternative_in-requires-clause-candidate c =
    let q = c.args.query.now in
    let root = native_root q c.args.at c.requires.rooted.0 c.args.expr c.args.mode c.requires.rooted.1 in
    c.members_are_candidates.ensures q (expr_of c.args.expr) root.member

-- the kids are least plans of what the line asks, and so of what the alternative does
pub returns-clause-over : goal.returns-clause-over
returns-clause-over c plan rooted =
    let q = c.args.query.now in
    let e = c.args.expr in
    let root = native_root q c.args.at plan e c.args.mode rooted in
    let found = c.in-Some.ensures in
    let same : Some found.0 ≡ Some root.line = sym found.1.is_alternative.is_line ∙ root.alternative.is_line in
    let line : found.0 ≡ root.line = cc in
    let groups = groups_of (physical_children e.operator) in
    let linked = subst (λ l. ArePlansAsked groups (asked_of l c.args.at.wanted) c.plans_asked_in.result) line
    (c.plans_asked_in.ensures groups (asked_of found.0 c.args.at.wanted) found.1.asks) in
    over_asked q groups (asked_of root.line c.args.at.wanted) c.plans_asked_in.result (Native e c.args.mode) root.kids
    plan
    linked root.least root.is rooted.root

pub returns-clause-lower : goal.returns-clause-lower
returns-clause-lower c =
    let q = c.args.query.now in
    let e = c.args.expr in
    let root = native_root q c.args.at c.requires.rooted.0 e c.args.mode c.requires.rooted.1 in
    let found = c.in-Some.ensures in
    let linked = c.plans_asked_in.ensures (groups_of (physical_children e.operator)) (asked_of found.0 c.args.at.wanted)
    found.1.asks in
    native_lower q (c.ranks_fall.ensures.closure q) c.args.at c.requires.goal
    (c.goals_are_known.ensures.candidates q (goal_of c.args.at) c.requires.goal) e c.args.mode found.0 root.member
    (c.members_are_candidates.ensures q (expr_of e) root.member) root.of_group found.1.is_alternative
    c.plans_asked_in.result
    linked
