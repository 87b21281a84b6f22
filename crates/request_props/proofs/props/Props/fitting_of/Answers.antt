use Rattle.std.proofs.Common.{sym, subst}
use Rattle.std.proofs.lemmas.List.Elements.{All-get_or}
use Rattle.request_props.specs.JoinSets.{AreFitting}
use Rattle.request_props.proofs.props.Props.fitting_of.Goals as goal

-- what stands at the place is one of those that were found
pub returns-then-eq-clause-fits : goal.returns-then-eq-clause-fits
returns-then-eq-clause-fits c =
    let there = c.in-Some.ensures.lookup in
    subst (AreFitting c.args.query.now) (sym there.1)
    (All-get_or (AreFitting c.args.query.now) c.args.found.now c.make.result.0 c.in-Some.sets.now there.3.0
    c.requires.found)
