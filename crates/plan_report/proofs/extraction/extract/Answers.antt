use Rattle.std.proofs.Common.{◌≡◌, sym, ap, ◌∙◌, subst}
use Rattle.query_core.specs.Keys.{root_of}
use Rattle.query_core.specs.declared.query.Query.{Query}
use Rattle.query_core.specs.declared.words.KeyParts.{KeyParts}
use Rattle.xform_rules.specs.Closure.{IsMember}
use Rattle.request_props.specs.Numbered.{root_request}
use Rattle.request_props.specs.declared.request.Request.{Request}
use Rattle.plan_space.specs.Cost.{cost_of}
use Rattle.plan_space.specs.Least.{HasNoPlan}
use Rattle.goal_space.specs.Goals.{IsGoal, root_goal}
use Rattle.plan_report.specs.declared.plans_asked.PlanAsked.{PlanAsked}
use Rattle.plan_report.specs.PlansAsked.{IsLeastAt, goal_of}
use Rattle.plan_report.proofs.Chosen.{best_chosen, none_chosen}
use Rattle.plan_report.proofs.extraction.extract.Goals as goal

abbrev root_at : Query → PlanAsked
root_at q = record { group = root_of q; wanted = root_request q }

is_root : (q : Query) (group : KeyParts) (wanted : Request) → root_of q ≡ group → wanted ≡ root_request q
    → root_at q ≡ record { group = group; wanted = wanted }
is_root q group wanted same same_too = cc

pub best_at-requires-clause-goal : goal.best_at-requires-clause-goal
best_at-requires-clause-goal g c =
    let q = c.args.query.now in
    let root = is_root q c.group.result c.args.props.now.root (c.group.ensures.only (root_of q) c.root.ensures)
    (c.root_request_is_collected.ensures q c.args.props.now c.requires.props) in
    subst (λ a. IsGoal q (goal_of a)) root root_goal

pub plan_at-requires-clause-goal : goal.plan_at-requires-clause-goal
plan_at-requires-clause-goal g c =
    let q = c.args.query.now in
    let root = is_root q c.group.result c.args.props.now.root (c.group.ensures.only (root_of q) c.root.ensures)
    (c.root_request_is_collected.ensures q c.args.props.now c.requires.props) in
    subst (λ a. IsGoal q (goal_of a)) root root_goal

pub plan_at-requires-clause-there : goal.plan_at-requires-clause-there
plan_at-requires-clause-there g c =
    let q = c.args.query.now in
    let at : PlanAsked = record { group = c.group.result; wanted = c.args.props.now.root } in
    let root = is_root q c.group.result c.args.props.now.root (c.group.ensures.only (root_of q) c.root.ensures)
    (c.root_request_is_collected.ensures q c.args.props.now c.requires.props) in
    let is_goal = subst (λ a. IsGoal q (goal_of a)) root root_goal in
    let found = best_chosen q at (c.goals_are_known.ensures.requests q (goal_of at) is_goal) c.args.props.now
    c.requires.props (c.answers_are_best.ensures.roots q) (c.best_is_least.ensures q)
    c.in-Some.best c.in-Some.ensures in
    (found.0, found.1.least)

-- the plan is the least one, and there is only one, so the answer is of it
pub returns-in_ok-plan_at-in-Some : goal.returns-in_ok-plan_at-in-Some
returns-in_ok-plan_at-in-Some g c =
    let q = c.args.query.now in
    let at : PlanAsked = record { group = c.group.result; wanted = c.args.props.now.root } in
    let root = is_root q c.group.result c.args.props.now.root (c.group.ensures.only (root_of q) c.root.ensures)
    (c.root_request_is_collected.ensures q c.args.props.now c.requires.props) in
    let is_goal = subst (λ a. IsGoal q (goal_of a)) root root_goal in
    let found = best_chosen q at (c.goals_are_known.ensures.requests q (goal_of at) is_goal) c.args.props.now
    c.requires.props (c.answers_are_best.ensures.roots q) (c.best_is_least.ensures q)
    c.in-Some.best c.in-Some.ensures in
    let (tree, spells, least) = c.in_ok-plan_at-in-Some.ensures in
    let same = c.least_is_one.ensures q c.requires.props.few_lists c.requires.props.few_orders at.group at.wanted
    found.0 tree found.1.least least in
    (tree, spells, subst (λ a. IsLeastAt q a tree) (sym root) least, found.2 ∙ ap (cost_of q) (sym same))

pub returns-in-None : goal.returns-in-None
returns-in-None g c =
    let q = c.args.query.now in
    let at : PlanAsked = record { group = c.group.result; wanted = c.args.props.now.root } in
    let root = is_root q c.group.result c.args.props.now.root (c.group.ensures.only (root_of q) c.root.ensures)
    (c.root_request_is_collected.ensures q c.args.props.now c.requires.props) in
    let is_goal = subst (λ a. IsGoal q (goal_of a)) root root_goal in
    subst (λ a. HasNoPlan (IsMember q) q a.group a.wanted) (sym root)
    (none_chosen q at (c.goals_are_known.ensures.requests q (goal_of at) is_goal) (c.best_is_least.ensures q)
    c.in-None.ensures)
