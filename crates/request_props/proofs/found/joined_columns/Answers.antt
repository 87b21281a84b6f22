use Rattle.request_props.specs.Found.{sides_of}
use Rattle.request_props.proofs.Mapped.{flat_map_done, flat_map_push}
use Rattle.request_props.proofs.found.joined_columns.Goals as goal

-- one more predicate's columns are found
pub loop-pred-preserved : goal.loop-pred-preserved
loop-pred-preserved c =
    let all = c.as_slice-pred-items.ensures in
    flat_map_push (sides_of c.args.query.now.items) c.args.query.now.preds c.loop-pred.columns.items
    c.push_sides.new.into.items c.loop-pred.pred-index c.pred-item.result _ (rw all at c.loop-pred-test.true)
    (rw all at c.pred-item.is) (rw c.as_slice.ensures at c.in_ok-push_sides.ensures) c.loop-pred.invariant

-- no predicate is left
pub returns : goal.returns
returns c =
    let all = c.as_slice-pred-items.ensures in record {
      value = flat_map_done (sides_of c.args.query.now.items) c.args.query.now.preds c.loop-pred.columns.items
          c.loop-pred.pred-index (rw all at c.loop-pred-test.false) c.loop-pred.invariant;
    }
