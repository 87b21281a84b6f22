-- The sets of a join allow what it can give, and that is what it may serve.
use Rattle.std.proofs.Common.{Option, subst}
use Rattle.std.specs.Prelude.{IfSome}
use Rattle.request_props.specs.JoinSets.{AreSetsOf}
use Rattle.request_props.specs.declared.tables.join_sets.JoinSets.{JoinSets}
use Rattle.plan_tree.proofs.AllowedBySets.{join_allowed}
use Rattle.plan_tree.proofs.ModesTried.{serve_suits, suits_serve}
use Rattle.plan_tree.proofs.serving_modes.may_serve_by.Goals as goal

pub returns-in-Some : goal.returns-in-Some
returns-in-Some c =
    let q = c.args.query.now in
    let e = c.args.expr.now in
    let w = c.args.wanted in
    let are = subst (λ (found : Option JoinSets). IfSome found (AreSetsOf q e.operator)) c.in-Some.is c.requires.sets in
    let is = join_allowed q w c.requires.numbered c.in-Some.sets e.operator are in
    let crossings = c.what_is_asked_fits.ensures.crossings q in (
      λ allows. suits_serve q e w is.by is.left is.right is.joins crossings c.requires.candidate
          (is.exact.0 (c.allow.ensures.0 allows)),
      λ serves. c.allow.ensures.1 (is.exact.1 (serve_suits q e w is.by is.left is.right is.joins crossings serves)),
    )
