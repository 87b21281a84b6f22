use Rattle.request_props.proofs.Ranges.{joined_few}
use Rattle.request_props.proofs.found.push_joined_orders.Goals as goal

-- joined columns are items
pub push_ascending-requires : goal.push_ascending-requires
push_ascending-requires c = rw (c.as_slice.ensures.value, c.in_ok-columns.ensures.value) (joined_few c.args.query.now)
