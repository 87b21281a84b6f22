-- Where neither pair of sets has the predicate, no pair of sides is taken.
use Rattle.std.proofs.Common.{ap, sym, ◌∙◌}
use Rattle.std.specs.Option.{option_map}
use Rattle.std.proofs.lemmas.Bool.{false≢true}
use Rattle.request_props.specs.Numbered.{both_sides}
use Rattle.request_props.proofs.GroupCrossings.{no_sides}
use Rattle.request_props.proofs.props.Props.across.Goals as goal

pub returns : goal.returns
returns c =
    let q = c.args.query.now in
    let e = c.args.equality in
    let pred = c.args.pred in
    let none = no_sides q c.args.left c.args.right pred c.ends-of_left.result c.ends-of_right.result
    c.ends-of_left.ensures c.ends-of_right.ensures e.left.column e.right.column c.requires.columns
    (λ both. false≢true (sym c.if-has.false ∙ c.has.ensures.1 ((c.and.ensures pred).1 both)))
    (λ both. false≢true (sym c.if-has-2.false ∙ c.has-2.ensures.1 ((c.and-2.ensures pred).1 both))) in
    sym (ap (option_map (both_sides q)) none)
