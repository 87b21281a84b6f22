use Rattle.std.proofs.Common.{arith}
use Rattle.request_props.proofs.Orders.{order_at}
use Rattle.request_props.proofs.props.Props.order.Goals as goal

-- the order with a number stands one place before it
pub returns-in-Some : goal.returns-in-Some
returns-in-Some c =
    rw (c.as_slice-in-Some.ensures, c.index-as_slice-place.is, c.as_slice.ensures)
    (order_at c.args.self.now c.args.number c.in-Some.place c.index-as_slice-place.result
    (omega (arith, c.in-Some.ensures)) c.requires)
