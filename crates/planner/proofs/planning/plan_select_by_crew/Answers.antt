use Rattle.std.proofs.Common.{subst, sym}
use Rattle.std.proofs.lemmas.Result.{err_from_is_err_and}
use Rattle.planner.specs.Planned.{IsRefusedSelect}
use Rattle.planner.proofs.Steps.{limits_refused, select_planned}
use Rattle.planner.proofs.planning.plan_select_by_crew.Goals as goal

-- the query to which the select is bound is out of the limits
pub returns-in_err-props-clause-refused : goal.returns-in_err-props-clause-refused
returns-in_err-props-clause-refused g c =
    let why = limits_refused c.args.catalog.now c.args.settings c.args.select.now c.in_ok-query.query
    c.in_ok-query.ensures c.in_err-props.field-0.0 c.in_err-props.ensures.fault in
    let told = err_from_is_err_and c.from_residual-in_err-props.result c.from_residual-in_err-props.ensures.1 in
    rw told.1 (subst (IsRefusedSelect c.args.catalog.now c.args.settings c.args.select.now) (sym told.2) why)

-- it has props, so it is within them
pub returns-clause-planned : goal.returns-clause-planned
returns-clause-planned g c =
    select_planned c.args.catalog.now c.args.settings c.args.select.now c.in_ok-query.query c.in_ok-query.ensures
    c.in_ok-props.props c.in_ok-planned.field-0 c.in_ok-props.ensures.ok c.in_ok-planned.ensures
