use Rattle.request_props.proofs.Orders.{wanted_number}
use Rattle.request_props.proofs.props.root_request.Goals as goal

-- the order of ORDER BY is empty, or one of those that were found
pub returns : goal.returns
returns c = record {
  dist = c.root_dist.ensures;
  order = rw (c.order_number.ensures, c.as_slice.ensures.value, c.in_ok-wanted_order.ensures.value)
      (wanted_number c.args.query.now);
}
