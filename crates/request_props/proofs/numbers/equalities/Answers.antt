use Rattle.request_props.specs.Numbered.{equality_of}
use Rattle.request_props.proofs.Mapped.{map_done, map_push}
use Rattle.request_props.proofs.numbers.equalities.Goals as goal

-- what one more predicate makes is found
pub loop-pred-preserved : goal.loop-pred-preserved
loop-pred-preserved c =
    let all = c.as_slice-pred-items.ensures in
    map_push (equality_of c.args.query.now) c.args.query.now.preds c.loop-pred.found.items c.push.new.self.items
    c.loop-pred.pred-index c.pred-item.result _ c.equality.result (rw all at c.loop-pred-test.true)
    (rw all at c.pred-item.is) c.equality.ensures c.in_ok-push.ensures.items c.loop-pred.invariant

-- no predicate is left
pub returns : goal.returns
returns c =
    let all = c.as_slice-pred-items.ensures in
    map_done (equality_of c.args.query.now) c.args.query.now.preds c.loop-pred.found.items c.loop-pred.pred-index
    (rw all at c.loop-pred-test.false) c.loop-pred.invariant
