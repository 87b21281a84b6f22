use Rattle.std.proofs.Common.{sym, subst, arith}
use Rattle.plan_space.specs.Nodes.{leaf, over, two}
use Rattle.plan_tree.specs.Seen.{root_node}
use Rattle.plan_tree.specs.Spells.{Spells}
use Rattle.plan_report.specs.PlansAsked.{goal_of}
use Rattle.plan_report.proofs.Chosen.{best_chosen, none_chosen, made_zero, made_one, made_two}
use Rattle.plan_report.proofs.extraction.+plan_at.Goals as goal

pub plans_asked_at-requires-clause-chosen : goal.plans_asked_at-requires-clause-chosen
plans_asked_at-requires-clause-chosen g t c =
    let q = c.args.query.now in
    let fits = c.goals_are_known.ensures.requests q (goal_of c.args.at) c.requires.goal in
    let found = best_chosen q c.args.at fits c.args.props.now c.requires.props
    (c.answers_are_best.ensures.roots q) (c.best_is_least.ensures q) c.in-Some.best c.in-Some.ensures in
    (found.0, found.1)

-- the plan below is there, for a goal of a lesser rank
pub plan_at-requires : goal.plan_at-requires
plan_at-requires g t c =
    let q = c.args.query.now in
    let fits = c.goals_are_known.ensures.requests q (goal_of c.args.at) c.requires.goal in
    let found = best_chosen q c.args.at fits c.args.props.now c.requires.props
    (c.answers_are_best.ensures.roots q) (c.best_is_least.ensures q) c.in-Some.best c.in-Some.ensures in
    let over = c.in-One.ensures.over found.0 found.1 in
    let lower = c.in-One.ensures.lower in
    λ κs within. (
      omega (arith, lower.lower, c.decreases),
      (within, (c.requires.props, (c.requires.answers, (lower.is_goal, (over.0, over.1))))),
    )

pub plan_at-requires-in-Two : goal.plan_at-requires-in-Two
plan_at-requires-in-Two g t c =
    let q = c.args.query.now in
    let fits = c.goals_are_known.ensures.requests q (goal_of c.args.at) c.requires.goal in
    let found = best_chosen q c.args.at fits c.args.props.now c.requires.props
    (c.answers_are_best.ensures.roots q) (c.best_is_least.ensures q) c.in-Some.best c.in-Some.ensures in
    let over = c.in-Two.ensures.over found.0 found.1 in
    let lower = c.in-Two.ensures.lower.0 in
    λ κs within. (
      omega (arith, lower.lower, c.decreases),
      (within, (c.requires.props, (c.requires.answers, (lower.is_goal, (over.0, over.2))))),
    )

pub plan_at-requires-in-Two-2 : goal.plan_at-requires-in-Two-2
plan_at-requires-in-Two-2 g t c =
    let q = c.args.query.now in
    let fits = c.goals_are_known.ensures.requests q (goal_of c.args.at) c.requires.goal in
    let found = best_chosen q c.args.at fits c.args.props.now c.requires.props
    (c.answers_are_best.ensures.roots q) (c.best_is_least.ensures q) c.in-Some.best c.in-Some.ensures in
    let over = c.in-Two.ensures.over found.0 found.1 in
    let lower = c.in-Two.ensures.lower.1 in
    λ κs within. (
      omega (arith, lower.lower, c.decreases),
      (within, (c.requires.props, (c.requires.answers, (lower.is_goal, (over.1, over.3))))),
    )

-- where there is a plan, one is answered
pub unreachable-requires : goal.unreachable-requires
unreachable-requires g t c =
    let q = c.args.query.now in
    let fits = c.goals_are_known.ensures.requests q (goal_of c.args.at) c.requires.goal in
    none_chosen q c.args.at fits (c.best_is_least.ensures q) c.in-None.ensures c.requires.there.0
    c.requires.there.1.serves

pub returns-in-Zero : goal.returns-in-Zero
returns-in-Zero g t c =
    let q = c.args.query.now in
    let fits = c.goals_are_known.ensures.requests q (goal_of c.args.at) c.requires.goal in
    let found = best_chosen q c.args.at fits c.args.props.now c.requires.props
    (c.answers_are_best.ensures.roots q) (c.best_is_least.ensures q) c.in-Some.best c.in-Some.ensures in
    let one = c.least_is_one.ensures q c.requires.props.few_lists c.requires.props.few_orders in (
      leaf (root_node found.0),
      found.1.is_node,
      made_zero q one c.args.at c.in-Some.best.node found.0 found.1 (c.in-Zero.ensures.over found.0 found.1),
    )

pub returns-in_ok-new-in-One : goal.returns-in_ok-new-in-One
returns-in_ok-new-in-One g t c =
    let q = c.args.query.now in
    let fits = c.goals_are_known.ensures.requests q (goal_of c.args.at) c.requires.goal in
    let found = best_chosen q c.args.at fits c.args.props.now c.requires.props
    (c.answers_are_best.ensures.roots q) (c.best_is_least.ensures q) c.in-Some.best c.in-Some.ensures in
    let one = c.least_is_one.ensures q c.requires.props.few_lists c.requires.props.few_orders in
    let made = made_one q one c.args.at c.in-Some.best.node found.0 found.1 c.in-One.below
    c.in_ok-plan_at-in-One.field-0 (c.in-One.ensures.over found.0 found.1) c.in_ok-plan_at-in-One.ensures in (
      over made.root made.kid,
      (
        made.is_node,
        subst (λ p. Spells p made.kid) (sym c.in_ok-new-in-One.ensures.ok) made.spells,
      ),
      made.least,
    )

pub returns-in_ok-new-in-Two-2 : goal.returns-in_ok-new-in-Two-2
returns-in_ok-new-in-Two-2 g t c =
    let q = c.args.query.now in
    let fits = c.goals_are_known.ensures.requests q (goal_of c.args.at) c.requires.goal in
    let found = best_chosen q c.args.at fits c.args.props.now c.requires.props
    (c.answers_are_best.ensures.roots q) (c.best_is_least.ensures q) c.in-Some.best c.in-Some.ensures in
    let one = c.least_is_one.ensures q c.requires.props.few_lists c.requires.props.few_orders in
    let made = made_two q one c.args.at c.in-Some.best.node found.0 found.1 c.in-Two.left c.in-Two.right
    c.in_ok-plan_at-in-Two.field-0 c.in_ok-plan_at-in-Two-2.field-0
    (c.in-Two.ensures.over found.0 found.1) c.in_ok-plan_at-in-Two.ensures c.in_ok-plan_at-in-Two-2.ensures in (
      two made.root made.left made.right,
      (
        made.is_node,
        subst (λ p. Spells p made.left) (sym c.in_ok-new-in-Two.ensures.ok) made.spells,
        subst (λ p. Spells p made.right) (sym c.in_ok-new-in-Two-2.ensures.ok) made.spells_too,
      ),
      made.least,
    )
