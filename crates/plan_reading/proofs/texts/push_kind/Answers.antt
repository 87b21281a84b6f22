-- The text is added where the query can name the node.
use Rattle.std.proofs.Common.{◌∙◌, sym, ap, subst}
use Rattle.std.proofs.lemmas.Bool.{false≢true}
use Rattle.plan_reading.specs.Named.{HasForm, named_text}
use Rattle.plan_reading.specs.Texts.{AddsNodeTexts, IsOfKind}
use Rattle.plan_reading.proofs.AllTexts.{adds_none, adds_one}
use Rattle.plan_reading.proofs.PlanLines.{node_named}
use Rattle.plan_reading.proofs.texts.push_kind.Goals as goal

pub returns-in_ok-push : goal.returns-in_ok-push
returns-in_ok-push c =
    let q = c.args.query.now in
    subst (AddsNodeTexts q (IsOfKind c.args.kind) c.args.texts.now.items) (sym c.in_ok-push.ensures.items)
    (adds_one q (IsOfKind c.args.kind) c.args.texts.now.items c.of-text.result c.of-node.result
    (c.has_form.ensures.0 c.if-has_form.true)
    (c.of-text.ensures ∙ c.in_ok-node_text.ensures ∙ node_named q c.args.kind ∙ ap (named_text q) (sym c.of-node.ensures))
    (λ node is. is ∙ sym c.of-node.ensures))

pub returns-else-has_form : goal.returns-else-has_form
returns-else-has_form c = adds_none c.args.query.now (IsOfKind c.args.kind) c.args.texts.now.items
    (λ node is form. false≢true (sym c.if-has_form.false
    ∙ c.has_form.ensures.1 (subst (HasForm c.args.query.now) (is ∙ sym c.of-node.ensures) form)))
