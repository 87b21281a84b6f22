use Rattle.std.proofs.Common.{ap, refl, sym, slice_get, ◌∙◌}
use Rattle.std.specs.Option.{option_map}
use Rattle.request_props.specs.Numbered.{both_sides}
use Rattle.request_props.proofs.Known.{crossing_none, crossing_some}
use Rattle.request_props.proofs.props.Props.crossing.Goals as goal

-- an equality is that of its predicate
pub across-requires : goal.across-requires
across-requires c =
    let q = c.args.query.now in
    let is = crossing_some q c.args.left c.args.right c.args.pred c.in-Some.equality (slice_get q.preds c.args.pred) refl
    (sym c.in-Some.ensures) in
    record { props = c.requires; columns = is.is_at; numbers = is.numbers }

-- and equates its two columns
pub returns-in-Some : goal.returns-in-Some
returns-in-Some c =
    let q = c.args.query.now in
    let is = crossing_some q c.args.left c.args.right c.args.pred c.in-Some.equality (slice_get q.preds c.args.pred) refl
    (sym c.in-Some.ensures) in
    c.across.ensures ∙ ap (option_map (both_sides q)) (sym is.same)

-- where the predicate is none, nothing crosses
pub returns-in-None : goal.returns-in-None
returns-in-None c =
    let q = c.args.query.now in
    let none = crossing_none q c.args.left c.args.right (slice_get q.preds c.args.pred) (sym c.in-None.ensures) in
    sym (ap (option_map (both_sides q)) none)
