use Rattle.sql_bind.specs.Query.{key_of, key_item, order_of}
use Rattle.sql_bind.proofs.Distinct.{begins, carries, finishes}
use Rattle.sql_bind.proofs.order.order_of.Goals as goal

pub loop-key-init : goal.loop-key-init
loop-key-init c = rw c.new-kept.ensures (begins key_item (order_of c.args.used.now c.args.keys.now))

-- the key is kept, unless its item is there
pub loop-key-preserved : goal.loop-key-preserved
loop-key-preserved c =
    let loop = c.loop-key in
    carries key_item (key_of c.args.used.now) c.args.keys.now loop.key-index _ loop.kept c.add_key.new.kept
    c.key_of.result _ c.loop-key-test.true c.key_of.ensures c.in_ok-add_key.ensures loop.invariant

-- no key is left
pub returns : goal.returns
returns c = finishes key_item (key_of c.args.used.now) c.args.keys.now c.loop-key.key-index c.loop-key.kept _
    c.loop-key-test.false c.loop-key.invariant
