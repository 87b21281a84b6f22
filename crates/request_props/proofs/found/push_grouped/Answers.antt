use Rattle.request_props.proofs.Ranges.{grouped_few}
use Rattle.request_props.proofs.found.push_grouped.Goals as goal

-- GROUP BY columns are items
pub ascending-requires : goal.ascending-requires
ascending-requires c = rw c.as_slice.ensures (grouped_few c.args.query.now)
