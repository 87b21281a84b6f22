use Rattle.std.proofs.Common.{◌≡◌, ◌∙◌, sym, subst, refl, take}
use Rattle.std.specs.List.{Contains}
use Rattle.std.proofs.lemmas.Bool.Decides.{Decides-eqb}
use Rattle.std.proofs.lemmas.Bool.{false≢true}
use Rattle.std.proofs.lemmas.List.{take_all}
use Rattle.std.proofs.lemmas.List.Elements.{All-more, All-contains, All-same}
use Rattle.std.proofs.lemmas.Slice.Eq.{slice_eq-Decides}
use Rattle.plan_reading.specs.Named.{named_text}
use Rattle.plan_reading.specs.declared.texts.NodeText.{NodeText}
use Rattle.plan_reading.proofs.reader.node_named.Goals as goal

pub returns-then-eq : goal.returns-then-eq
returns-then-eq c = λ q texts.
    let decides = slice_eq-Decides Decides-eqb c.as_bytes.result.now c.args.text.now c.eq.result c.eq.ensures in
    let bytes : c.entry-item.result.text ≡ c.as_bytes.result.now = sym (c.as_bytes.ensures.value ∙ c.as_str.ensures) in
    let inside : Contains c.args.texts.now c.entry-item.result =
    (c.loop-entry.entry-index, c.loop-entry-test.true, sym c.entry-item.is) in
    let has = (texts c.entry-item.result).0 inside in
    (has.form, sym (bytes ∙ decides.0 c.if-eq.true) ∙ has.text)

pub loop-entry-preserved : goal.loop-entry-preserved
loop-entry-preserved c =
    let decides = slice_eq-Decides Decides-eqb c.as_bytes.result.now c.args.text.now c.eq.result c.eq.ensures in
    let bytes : c.as_bytes.result.now ≡ c.entry-item.result.text = c.as_bytes.ensures.value ∙ c.as_str.ensures in
    All-more (λ (e : NodeText). e.text ≡ c.args.text.now → ⊥) c.args.texts.now c.loop-entry.entry-index c.entry-item.result
    c.loop-entry-test.true c.loop-entry.invariant
    (subst (λ (e : NodeText). e.text ≡ c.args.text.now → ⊥) c.entry-item.is
    (λ same. false≢true (sym c.if-eq.false ∙ decides.1 (bytes ∙ same))))

pub returns : goal.returns
returns c = λ q texts n form is.
    let entry : NodeText = record { text = named_text q n; node = n } in
    let all = All-same (λ (e : NodeText). e.text ≡ c.args.text.now → ⊥) c.args.texts.now
    (take c.loop-entry.entry-index c.args.texts.now)
    (sym (take_all c.loop-entry.entry-index c.args.texts.now c.loop-entry-test.false)) c.loop-entry.invariant in
    All-contains (λ (e : NodeText). e.text ≡ c.args.text.now → ⊥) c.args.texts.now entry all
    ((texts entry).1 (record { form = form; text = refl })) (sym is)
