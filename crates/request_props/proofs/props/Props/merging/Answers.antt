-- A column gives the order exactly where the order of the column begins with it.
use Rattle.request_props.proofs.Merging.{merging_in}
use Rattle.request_props.proofs.props.Props.merging.Goals as goal

pub returns : goal.returns
returns c pred =
    let in_sets = merging_in c.args.query.now c.args.left c.args.right c.args.order c.ends.result c.ends-2.result
    c.ends_giving-giving.result c.ends.ensures c.ends-2.ensures c.ends_giving-giving.ensures pred in (
      λ has. in_sets.1 ((c.across_by.ensures pred).0 has),
      λ crosses. (c.across_by.ensures pred).1 (in_sets.0 crosses),
    )
