use Rattle.std.proofs.Common.{◌≡◌, ◌<◌, None, length, slice_index_or, arith}
use Rattle.request_props.specs.Numbered.{lists_of}
use Rattle.request_props.proofs.Covering.{over_at}
use Rattle.request_props.proofs.props.Props.list_is_over.Goals as goal

-- the list is over the tables that were found
pub returns-in-Some : goal.returns-in-Some
returns-in-Some c =
    let q = c.args.query.now in
    let found = c.args.self.now.placement.value.of_lists in
    let known = c.requires.placement.of_lists in
    let inside : c.args.list < length found = grind arith in
    let is : c.in-Some.tables.now ≡ slice_index_or found c.args.list None = grind arith in
    let over = over_at q (lists_of q) found c.args.list c.args.set c.in-Some.tables.now known inside is in (
      λ yes. record { numbered = omega (arith, inside, known.count); lies_in = over.1 (c.covers.ensures.0 yes) },
      λ fits. c.covers.ensures.1 (over.0 fits.lies_in),
    )
