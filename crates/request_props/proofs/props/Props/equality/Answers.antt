use Rattle.std.proofs.Common.{None, map, ◌∙◌}
use Rattle.request_props.specs.Numbered.{equality_of}
use Rattle.query_core.proofs.Lookups.{found_at, none_at}
use Rattle.request_props.proofs.MappedLookups.{made_at, none_made_at}
use Rattle.request_props.proofs.props.Props.equality.Goals as goal

-- it is made of the predicate at the place
pub returns-in-Some : goal.returns-in-Some
returns-in-Some c =
    let make = equality_of c.args.query.now in
    let preds = c.args.query.now.preds in
    let made = (rw c.deref.ensures at c.as_slice.ensures) ∙ c.requires.equalities.sides in
    made_at make preds c.args.pred c.in-Some.equality.now None
    (found_at (map make preds) c.as_slice.result.now c.args.pred c.in-Some.equality.now
    made c.in-Some.ensures.lookup.3.0 c.in-Some.ensures.lookup.1)

-- there is no such predicate
pub returns-in-None : goal.returns-in-None
returns-in-None c =
    let make = equality_of c.args.query.now in
    let preds = c.args.query.now.preds in
    let made = (rw c.deref.ensures at c.as_slice.ensures) ∙ c.requires.equalities.sides in
    none_made_at make preds c.args.pred None
    (none_at (map make preds) c.as_slice.result.now c.args.pred made
    c.in-None.ensures.lookup.3)
