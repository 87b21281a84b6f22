use Rattle.std.proofs.Common.{sym, subst, ◌∙◌, ap}
use Rattle.query_core.specs.Expressions.{expr_of, physical_children}
use Rattle.plan_space.specs.Alternatives.{asked_of}
use Rattle.plan_space.specs.Choices.{groups_of}
use Rattle.plan_space.specs.declared.nodes.NodeKind.TheVariants.{Native}
use Rattle.best_answers.specs.Answers.{answers_asked, best_over}
use Rattle.best_answers.specs.Best.{IsBest}
use Rattle.best_answers.specs.Nodes.{one_node}
use Rattle.best_answers.proofs.Single.{room_below}
use Rattle.best_answers.proofs.Asked.{asked_best}
use Rattle.best_answers.proofs.choices.best_in_mode.Goals as goal

-- the choice over the plans that are told costs no more than any may
pub cost_below-requires : goal.cost_below-requires
cost_below-requires c =
    let q = c.args.query.now in
    let e = c.args.expr in
    let mode = c.requires.alternative.0 in
    let is = c.requires.alternative.1 in
    let best = asked_best q c.args.alt c.args.below (groups_of (physical_children e.operator))
    (asked_of c.args.line.now c.args.wanted) is.asks c.requires.below in
    let fit = c.what_is_asked_fits.ensures.children q e mode c.args.line.now c.args.wanted
    (c.members_are_candidates.ensures q (expr_of e) c.requires.member) c.requires.fits is.is_alternative in
    room_below q e mode c.args.line.now c.args.wanted is.is_alternative (c.best_is_least.ensures q)
    (c.costs_fit.ensures.choice q) c.requires.member c.requires.fits fit
    (answers_asked c.args.alt c.args.below) best

-- the law of one expression in a mode, at these answers
pub returns : goal.returns
returns c mode is =
    let q = c.args.query.now in
    let e = c.args.expr in
    let best = asked_best q c.args.alt c.args.below (groups_of (physical_children e.operator))
    (asked_of c.args.line.now c.args.wanted) is.asks c.requires.below in
    let cost = c.native_cost_by-local.ensures.value mode is.is_alternative.is_line in
    let local = c.native_cost_by-local.result in
    subst (IsBest q e.group c.args.wanted (one_node (Native e mode)))
    (sym (c.over.ensures (Native e mode) is.is_node
    ∙ ap (best_over local (Native e mode)) c.cost_below.ensures.value))
    (c.answers_are_best.ensures.mode q e mode c.args.line.now c.args.wanted local (answers_asked c.args.alt c.args.below)
    c.requires.member c.requires.fits is.is_alternative cost best)
