-- The sets stand in their list by hashed lists.
use Rattle.std.proofs.Common.{◌≡◌, Some}
use Rattle.request_props.proofs.ListsOfEnds.{ends_found}
use Rattle.request_props.proofs.props.Props.ends_listed.Goals as goal

pub returns-in-Some : goal.returns-in-Some
returns-in-Some c =
    let at = c.as_slice.ensures in
    let in_box = c.deref.ensures in
    let same : c.as_slice.result.now ≡ c.args.self.now.equalities.value.of_lists = cc in
    ends_found c.args.query.now _ _ _ _ same c.requires.equalities.of_lists c.args.list (Some c.in-Some.ends)
    c.in-Some.ensures.found
