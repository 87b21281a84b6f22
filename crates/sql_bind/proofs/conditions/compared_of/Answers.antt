use Rattle.std.proofs.Common.{◌∙◌, sym}
use Rattle.std.proofs.lemmas.Result.{err_from_is_err_and}
use Rattle.sql_bind.specs.Conditions.{compared_in}
use Rattle.sql_bind.proofs.Each.{goes_on, stops, is_done}
use Rattle.sql_bind.proofs.conditions.compared_of.Goals as goal

-- the element that was bound goes last
pub loop-pred-preserved : goal.loop-pred-preserved
loop-pred-preserved c =
    let loop = c.loop-pred in
    rw (c.in_ok-push.ensures.ok) (goes_on (λ before pred. compared_in c.args.sources.now pred) c.args.preds.now
    loop.compared loop.pred-index c.pred-item.result c.in_ok-comparison.comparison c.loop-pred-test.true
    c.pred-item.is c.in_ok-comparison.ensures ∙ loop.invariant)

-- the first element with a fault ends the binding
pub returns-in_err-comparison : goal.returns-in_err-comparison
returns-in_err-comparison c =
    let loop = c.loop-pred in
    let raised = err_from_is_err_and c.from_residual.result c.from_residual.ensures.1 in
    rw raised.1 (stops (λ before pred. compared_in c.args.sources.now pred) c.args.preds.now loop.compared
    loop.pred-index c.pred-item.result _ c.in_err-comparison.field-0.0 raised.0 c.loop-pred-test.true c.pred-item.is
    c.in_err-comparison.ensures loop.invariant raised.2)

-- no element is left
pub returns : goal.returns
returns c = sym c.loop-pred.invariant ∙ is_done (λ before pred. compared_in c.args.sources.now pred) c.args.preds.now
    c.loop-pred.compared c.loop-pred.pred-index c.loop-pred-test.false
