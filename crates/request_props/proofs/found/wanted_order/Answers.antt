use Rattle.request_props.proofs.Ranges.{order_few}
use Rattle.request_props.proofs.found.wanted_order.Goals as goal

-- they are columns and aggregates
pub elements-requires : goal.elements-requires
elements-requires c = rw c.as_slice.ensures (order_few c.args.query.now)
