-- An answer is given exactly where it is the plan's outcome, which is one.
use Rattle.std.proofs.Common.{Ok, Err}
use Rattle.plan_check.specs.declared.fault.PlanFault.TheVariants.{TooLarge, Shape, Kids, Needs, Unsatisfied}
use Rattle.plan_check.proofs.OneOutcome.{is_outcome}
use Rattle.plan_check.proofs.check.check_plan.Goals as goal

pub returns-clause-ok : goal.returns-clause-ok
returns-clause-ok c = λ cost.
    is_outcome c.nodes_are_one.ensures c.args.query.now c.args.plan.now c.args.request c.outcome.result (Ok cost)
    c.outcome.ensures

pub returns-clause-too_large : goal.returns-clause-too_large
returns-clause-too_large c = λ nodes.
    is_outcome c.nodes_are_one.ensures c.args.query.now c.args.plan.now c.args.request c.outcome.result
    (Err (TooLarge nodes)) c.outcome.ensures

pub returns-clause-shape : goal.returns-clause-shape
returns-clause-shape c = λ node.
    is_outcome c.nodes_are_one.ensures c.args.query.now c.args.plan.now c.args.request c.outcome.result
    (Err (Shape node)) c.outcome.ensures

pub returns-clause-kids : goal.returns-clause-kids
returns-clause-kids c = λ node.
    is_outcome c.nodes_are_one.ensures c.args.query.now c.args.plan.now c.args.request c.outcome.result
    (Err (Kids node)) c.outcome.ensures

pub returns-clause-needs : goal.returns-clause-needs
returns-clause-needs c = λ node.
    is_outcome c.nodes_are_one.ensures c.args.query.now c.args.plan.now c.args.request c.outcome.result
    (Err (Needs node)) c.outcome.ensures

pub returns-clause-unsatisfied : goal.returns-clause-unsatisfied
returns-clause-unsatisfied c =
    is_outcome c.nodes_are_one.ensures c.args.query.now c.args.plan.now c.args.request c.outcome.result
    (Err Unsatisfied) c.outcome.ensures
