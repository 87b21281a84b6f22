use Rattle.std.proofs.Common.{◌≡◌, ◌<◌, ◌-◌, None, length, slice_index_or, arith}
use Rattle.request_props.proofs.Covering.{order_over}
use Rattle.request_props.proofs.props.Props.order_is_over.Goals as goal

-- the order is over the tables that were found
pub returns-in-Some : goal.returns-in-Some
returns-in-Some c =
    let q = c.args.query.now in
    let place = c.args.order - 1 in
    let found = c.args.self.now.placement.value.of_orders in
    let known = c.requires.placement.of_orders in
    let inside : place < length found = grind arith in
    let is : c.in-Some.tables.now ≡ slice_index_or found place None = grind arith in
    order_over q c.args.order place c.args.set c.in-Some.tables.now c.covers.result (omega arith) found known inside is
    c.covers.ensures
