use Rattle.std.proofs.Common.{◌∙◌, sym}
use Rattle.std.proofs.lemmas.Result.{err_from_is_err_and}
use Rattle.sql_bind.specs.Columns.{column_of}
use Rattle.sql_bind.proofs.Each.{goes_on, stops, is_done}
use Rattle.sql_bind.proofs.columns.columns_of.Goals as goal

-- the element that was bound goes last
pub loop-reference-preserved : goal.loop-reference-preserved
loop-reference-preserved c =
    let loop = c.loop-reference in
    rw (c.in_ok-push.ensures.ok) (goes_on (λ before reference. column_of c.args.sources.now reference)
    c.args.references.now loop.columns loop.reference-index c.reference-item.result c.in_ok-column.column
    c.loop-reference-test.true c.reference-item.is c.in_ok-column.ensures ∙ loop.invariant)

-- the first element with a fault ends the binding
pub returns-in_err-column : goal.returns-in_err-column
returns-in_err-column c =
    let loop = c.loop-reference in
    let raised = err_from_is_err_and c.from_residual.result c.from_residual.ensures.1 in
    rw raised.1 (stops (λ before reference. column_of c.args.sources.now reference) c.args.references.now loop.columns
    loop.reference-index c.reference-item.result _ c.in_err-column.field-0.0 raised.0 c.loop-reference-test.true
    c.reference-item.is c.in_err-column.ensures loop.invariant raised.2)

-- no element is left
pub returns : goal.returns
returns c = sym c.loop-reference.invariant
    ∙ is_done (λ before reference. column_of c.args.sources.now reference) c.args.references.now
    c.loop-reference.columns c.loop-reference.reference-index c.loop-reference-test.false
