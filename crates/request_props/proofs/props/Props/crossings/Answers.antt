-- The predicates that cross are those that the sets of the groups have across.
use Rattle.request_props.proofs.GroupCrossings.{crossing_in}
use Rattle.request_props.proofs.props.Props.crossings.Goals as goal

pub returns : goal.returns
returns c pred =
    let in_sets = crossing_in c.args.query.now c.args.left c.args.right pred c.ends.result c.ends-2.result
    c.ends.ensures c.ends-2.ensures in
    (λ has. in_sets.1 ((c.across.ensures pred).0 has), λ some. (c.across.ensures pred).1 (in_sets.0 some))
