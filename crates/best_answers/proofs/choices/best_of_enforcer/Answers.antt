use Rattle.std.proofs.Common.{◌≤◌, [], ◌∷◌, sym, subst, ◌∙◌, ap, refl, arith}
use Rattle.std.specs.Prelude.{Option, None, Some, IfSome}
use Rattle.query_core.specs.declared.query.Query.{Query}
use Rattle.query_core.specs.declared.words.KeyParts.{KeyParts}
use Rattle.request_props.specs.declared.request.Request.{Request}
use Rattle.request_props.specs.Fitting.{Fits}
use Rattle.plan_space.specs.Cost.{most_of_all}
use Rattle.plan_space.specs.declared.nodes.NodeKind.TheVariants.{Enforcer}
use Rattle.best_answers.specs.Answers.{costs_below, best_over}
use Rattle.best_answers.specs.Best.{IsBest}
use Rattle.best_answers.specs.Laws.{BestsFit}
use Rattle.best_answers.specs.Nodes.{all_nodes, one_node}
use Rattle.best_answers.specs.declared.best.Best.{Best}
use Rattle.best_answers.proofs.choices.best_of_enforcer.Goals as goal

-- a best answer costs no more than any plan may
room : (q : Query) → BestsFit q → (group : KeyParts) (wanted : Request) (answer : Option Best) → Fits q group wanted
    → IsBest q group wanted all_nodes answer
    → IfSome (costs_below (answer ∷ [])) (λ cost. cost ≤ most_of_all)
room q fit group wanted None fits best = tt
room q fit group wanted (Some answer) fits best = let most = fit group wanted all_nodes answer fits best in
    omega (arith, most)

pub over-requires : goal.over-requires
over-requires c =
    let q = c.args.query.now in
    let e = c.requires.enforced.0 in
    let is = c.requires.enforced.1 in
    let fits : Fits q c.args.group c.args.enforced.below =
    subst (Fits q c.args.group) (sym is.is.1)
    (c.what_is_asked_fits.ensures.enforcers q c.args.group c.args.wanted e c.requires.fits is.among) in
    record {
      local = c.enforcer_cost_by-local.ensures.most;
      below = subst (λ found. IfSome found (λ cost. cost ≤ most_of_all)) (sym c.cost_of_one.ensures)
          (room q (c.answers_are_best.ensures.fits q) c.args.group c.args.enforced.below c.args.below fits
          c.requires.below);
    }

-- the law of one enforcer, at this answer
pub returns : goal.returns
returns c e is =
    let q = c.args.query.now in
    let local = c.enforcer_cost_by-local.result in
    let best = subst (λ r. IsBest q c.args.group r all_nodes c.args.below) is.is.1 c.requires.below in
    let cost = c.enforcer_cost_by-local.ensures.value c.args.group e.node c.group_rows-rows.ensures.value is.is.0 e
    is.among refl in
    subst (IsBest q c.args.group c.args.wanted (one_node (Enforcer e.node)))
    (sym (c.over.ensures (Enforcer e.node) is.is.0 ∙ ap (best_over local (Enforcer e.node)) c.cost_of_one.ensures))
    (c.answers_are_best.ensures.enforcer q c.args.group c.args.wanted e local c.args.below c.requires.fits is.among cost
    best)
