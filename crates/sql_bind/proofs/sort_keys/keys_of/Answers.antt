use Rattle.std.proofs.Common.{◌∙◌, sym}
use Rattle.std.proofs.lemmas.Result.{err_from_is_err_and}
use Rattle.sql_bind.specs.SortKeys.{key_in}
use Rattle.sql_bind.proofs.Each.{goes_on, stops, is_done}
use Rattle.sql_bind.proofs.sort_keys.keys_of.Goals as goal

-- the element that was bound goes last
pub loop-key-preserved : goal.loop-key-preserved
loop-key-preserved c =
    let loop = c.loop-key in
    rw (c.in_ok-push.ensures.ok) (goes_on (λ before key. key_in c.args.sources.now c.args.chosen.now key)
    c.args.order_by.now loop.keys loop.key-index c.key-item.result c.in_ok-bound.bound c.loop-key-test.true
    c.key-item.is c.in_ok-bound.ensures ∙ loop.invariant)

-- the first element with a fault ends the binding
pub returns-in_err-bound : goal.returns-in_err-bound
returns-in_err-bound c =
    let loop = c.loop-key in
    let raised = err_from_is_err_and c.from_residual.result c.from_residual.ensures.1 in
    rw raised.1 (stops (λ before key. key_in c.args.sources.now c.args.chosen.now key) c.args.order_by.now loop.keys
    loop.key-index c.key-item.result _ c.in_err-bound.field-0.0 raised.0 c.loop-key-test.true c.key-item.is
    c.in_err-bound.ensures loop.invariant raised.2)

-- no element is left
pub returns : goal.returns
returns c = sym c.loop-key.invariant ∙ is_done (λ before key. key_in c.args.sources.now c.args.chosen.now key)
    c.args.order_by.now c.loop-key.keys c.loop-key.key-index c.loop-key-test.false
