-- One more pair of sides is found, or there is none with this key.
use Rattle.std.proofs.Common.{◌+◌, subst, sym}
use Rattle.std.proofs.lemmas.Result.{on_ok_weaker}
use Rattle.request_props.specs.Joins.{AreSidesBelow}
use Rattle.request_props.proofs.SideLemmas.{of_tables_small}
use Rattle.request_props.proofs.SideLists.{sides_more, no_sides_at}
use Rattle.request_props.proofs.tables.candidates.sides.push_at.Goals as goal

pub returns-in-Some : goal.returns-in-Some
returns-in-Some c =
    let q = c.args.query.now in
    let more = sides_more q c.args.set (of_tables_small q c.args.set c.requires.known.0) c.args.left c.args.found.now
    c.in-Some.sides c.in-Some.ensures c.requires.before in
    on_ok_weaker c.push.result (λ grown. subst (AreSidesBelow q c.args.set (c.args.left + 1)) (sym grown) more)
    c.push.ensures.ok

pub returns-in-None : goal.returns-in-None
returns-in-None c =
    let q = c.args.query.now in
    no_sides_at q c.args.set c.args.left c.args.found.now c.in-None.ensures c.requires.before
