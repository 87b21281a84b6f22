-- A join is told by the distribution and the order, and what works otherwise by its modes.
use Rattle.std.proofs.Common.{◌∙◌, sym}
use Rattle.plan_tree.proofs.ModesTried.{serve_suits, suits_serve}
use Rattle.plan_tree.proofs.serving_modes.may_serve.Goals as goal

pub returns-in-Joins : goal.returns-in-Joins
returns-in-Joins c =
    let q = c.args.query.now in
    let e = c.args.expr.now in
    let w = c.args.wanted in
    let joins = sym c.way_of.ensures ∙ c.in-Joins.is in
    let crossings = c.what_is_asked_fits.ensures.crossings q in (
      λ is. suits_serve q e w _ _ _ joins crossings c.requires.candidate (c.join_may_serve.ensures.0 is),
      λ serves. c.join_may_serve.ensures.1 (serve_suits q e w _ _ _ joins crossings serves),
    )
