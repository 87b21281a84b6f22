use Rattle.std.proofs.Common.{◌∙◌, sym}
use Rattle.std.proofs.lemmas.Result.{err_from_is_err_and}
use Rattle.catalog_json.specs.Columns.{names_of}
use Rattle.catalog_json.specs.Walk.{index_at}
use Rattle.catalog_json.proofs.Each.{goes_on, stops, is_done}
use Rattle.catalog_json.proofs.table.read_each_index.Goals as goal

-- the index that was read goes last
pub loop-value-preserved : goal.loop-value-preserved
loop-value-preserved c =
    let loop = c.loop-value in
    rw (c.in_ok-push.ensures.ok) (goes_on (index_at c.args.t (names_of c.args.columns.now)) c.args.values.now
    loop.indexes loop.value-index c.value-item.result c.in_ok-index.index c.loop-value-test.true c.value-item.is
    (rw (← c.len.ensures) c.in_ok-index.ensures) ∙ loop.invariant)

-- the first index with a fault ends the reading
pub returns-in_err-index : goal.returns-in_err-index
returns-in_err-index c =
    let loop = c.loop-value in
    let raised = err_from_is_err_and c.from_residual.result c.from_residual.ensures.1 in
    rw raised.1 (stops (index_at c.args.t (names_of c.args.columns.now)) c.args.values.now loop.indexes loop.value-index
    c.value-item.result _ c.in_err-index.field-0.0 raised.0 c.loop-value-test.true c.value-item.is
    (rw (← c.len.ensures) c.in_err-index.ensures) loop.invariant raised.2)

-- no value is left
pub returns : goal.returns
returns c = sym c.loop-value.invariant ∙ is_done (index_at c.args.t (names_of c.args.columns.now)) c.args.values.now
    c.loop-value.indexes c.loop-value.value-index c.loop-value-test.false
