use Rattle.std.proofs.Common.{◌∙◌, sym}
use Rattle.std.proofs.lemmas.Result.{err_from_is_err_and}
use Rattle.catalog_json.specs.Columns.{names_of}
use Rattle.catalog_json.specs.Walk.{listed_at}
use Rattle.catalog_json.proofs.Each.{goes_on, stops, is_done}
use Rattle.catalog_json.proofs.listed.read_each_listed.Goals as goal

-- the place that was read goes last
pub loop-value-preserved : goal.loop-value-preserved
loop-value-preserved c =
    let loop = c.loop-value in
    rw (c.in_ok-push.ensures.ok) (goes_on (listed_at c.args.list (names_of c.args.columns.now)) c.args.values.now
    loop.places loop.value-index c.value-item.result c.in_ok-place.place c.loop-value-test.true c.value-item.is
    (rw (← c.as_slice.ensures) c.in_ok-place.ensures) ∙ loop.invariant)

-- the first element with a fault ends the reading
pub returns-in_err-place : goal.returns-in_err-place
returns-in_err-place c =
    let loop = c.loop-value in
    let raised = err_from_is_err_and c.from_residual.result c.from_residual.ensures.1 in
    rw raised.1 (stops (listed_at c.args.list (names_of c.args.columns.now)) c.args.values.now loop.places
    loop.value-index c.value-item.result _ c.in_err-place.field-0.0 raised.0 c.loop-value-test.true c.value-item.is
    (rw (← c.as_slice.ensures) c.in_err-place.ensures) loop.invariant raised.2)

-- no value is left
pub returns : goal.returns
returns c = sym c.loop-value.invariant ∙ is_done (listed_at c.args.list (names_of c.args.columns.now)) c.args.values.now
    c.loop-value.places c.loop-value.value-index c.loop-value-test.false
