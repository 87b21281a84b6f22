-- The predicates whose left column has the list are those that the sets of the groups and of the list have.
use Rattle.std.proofs.Common.{◌≡◌, ℕ}
use Rattle.request_props.specs.Numbered.{column_list}
use Rattle.request_props.proofs.GroupCrossings.{narrowed_in}
use Rattle.request_props.proofs.props.Props.hashing_by.Goals as goal

pub returns : goal.returns
returns c pred =
    let q = c.args.query.now in
    let IsOne = λ (column : ℕ). column_list q column ≡ c.args.list in
    let in_sets = narrowed_in q c.args.left c.args.right pred c.ends.result c.ends-2.result c.ends.ensures
    c.ends-2.ensures IsOne c.ends_listed-listed.result c.ends_listed-listed.ensures in
    (λ has. in_sets.1 ((c.across_by.ensures pred).0 has), λ crosses. (c.across_by.ensures pred).1 (in_sets.0 crosses))
