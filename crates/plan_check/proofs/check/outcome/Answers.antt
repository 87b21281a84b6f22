use Rattle.std.proofs.Common.{sym, ◌∙◌, true≢false}
use Rattle.plan_check.proofs.Outcomes.{is_small, kids_fault, needs_fault, good, unsatisfied}
use Rattle.plan_check.proofs.check.outcome.Goals as goal

-- all nodes are of the query
pub returns-in-Some-wrong : goal.returns-in-Some-wrong
returns-in-Some-wrong c =
    let small = is_small c.args.plan.now c.count-nodes.result c.count-nodes.ensures c.if-nodes-gt-MOST_NODES.false in
    kids_fault c.args.query.now c.args.plan.now c.walk-walked.result small c.walk-walked.ensures.walked
    c.in_default.is c.in-Some-wrong.node c.in-Some-wrong.is

-- all kids are right
pub returns-in-Some-unfit : goal.returns-in-Some-unfit
returns-in-Some-unfit c =
    let small = is_small c.args.plan.now c.count-nodes.result c.count-nodes.ensures c.if-nodes-gt-MOST_NODES.false in
    needs_fault c.args.query.now c.args.plan.now c.walk-walked.result small c.walk-walked.ensures.walked
    c.in_default.is c.in_default-wrong.is c.in-Some-unfit.node c.in-Some-unfit.is

-- each node may stand over its kids, and the plan gives what is asked for
pub returns-then-given_satisfies : goal.returns-then-given_satisfies
returns-then-given_satisfies c =
    let small = is_small c.args.plan.now c.count-nodes.result c.count-nodes.ensures c.if-nodes-gt-MOST_NODES.false in
    good c.args.query.now c.args.plan.now c.walk-walked.result small c.walk-walked.ensures.walked
    c.in_default.is c.in_default-unfit.is c.args.request (c.given_satisfies.ensures.0 c.if-given_satisfies.true)

-- or it does not
pub returns-else-given_satisfies : goal.returns-else-given_satisfies
returns-else-given_satisfies c =
    let small = is_small c.args.plan.now c.count-nodes.result c.count-nodes.ensures c.if-nodes-gt-MOST_NODES.false in
    unsatisfied c.args.query.now c.args.plan.now c.walk-walked.result small c.walk-walked.ensures.walked
    c.in_default.is c.in_default-unfit.is c.args.request
    (λ met. true≢false (sym (c.given_satisfies.ensures.1 met) ∙ c.if-given_satisfies.false))
