-- One more order is tried.
use Rattle.std.specs.Prelude.{not}
use Rattle.request_props.specs.JoinSets.{Merges}
use Rattle.request_props.proofs.JoinSetLemmas.{one_below}
use Rattle.request_props.proofs.Merging.{merges_in}
use Rattle.request_props.proofs.props.Props.orders_merged.Goals as goal

pub loop-order-preserved : goal.loop-order-preserved
loop-order-preserved c =
    let q = c.args.query.now in
    let left = c.args.left in
    let right = c.args.right in
    let order = c.loop-order.order in
    one_below (Merges q left right) c.loop-order.orders c.with-orders.result order (not c.is_empty.result)
    c.with-orders.ensures
    (merges_in q left right order c.ends-of_left.result c.ends-of_right.result c.ends_giving.result
    c.ends-of_left.ensures c.ends-of_right.ensures c.ends_giving.ensures c.across_by-merging.result c.is_empty.result
    c.across_by-merging.ensures c.is_empty.ensures.none c.is_empty.ensures.some) c.loop-order.invariant
