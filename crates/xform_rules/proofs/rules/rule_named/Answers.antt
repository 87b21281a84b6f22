use Rattle.std.proofs.Common.{false, ◌<◌, ◌≤◌, ◌≡◌, ap, length, subst, sym, ◌∙◌, Some}
use Rattle.std.specs.Str.{bytes_eq}
use Rattle.std.specs.List.{list_any}
use Rattle.std.proofs.lemmas.Bool.{false≢true}
use Rattle.std.proofs.lemmas.List.{take_all}
use Rattle.std.proofs.lemmas.List.Folds.{list_any_at}
use Rattle.xform_rules.specs.declared.rules.Rule.TheVariants.{ExpandNAry}
use Rattle.xform_rules.proofs.Names.{is_named, name_is, name_one, named_by, none_more}
use Rattle.xform_rules.proofs.rules.rule_named.Goals as goal

-- this rule doesn't have the name either
pub loop-rule-preserved : goal.loop-rule-preserved
loop-rule-preserved c =
    none_more c.args.name.now c.all-rules.result c.loop-rule.rule-index ExpandNAry
    (subst (λ n. c.loop-rule.rule-index < n) (sym (ap length c.all-rules.ensures.value)) c.loop-rule-test.true)
    c.loop-rule.invariant
    (ap (λ name. bytes_eq name c.args.name.now) (sym c.name.ensures) ∙ (sym c.eq.ensures ∙ c.if-eq.false))

-- the rule has the name, and no other has
pub returns-then-eq : goal.returns-then-eq
returns-then-eq c =
    let is = name_is _ c.name.result.now c.args.name.now c.name.ensures (sym c.eq.ensures ∙ c.if-eq.true) in
    record {
      found = is;
      only = λ other same. ap Some (name_one _ other (is ∙ sym same));
    }

-- each rule is one of those, so none has the name
pub returns : goal.returns
returns c = record {
  found = tt;
  only = λ rule same.
      let named = is_named c.args.name.now in
      let (place, within, there) = c.all-rules.ensures.every rule in
      let none = subst (λ rules. list_any named rules ≡ false)
      (take_all c.loop-rule.rule-index c.all-rules.result (subst (λ n. n ≤ c.loop-rule.rule-index)
      (sym (ap length c.all-rules.ensures.value)) c.loop-rule-test.false))
      c.loop-rule.invariant in
      absurd (false≢true (sym none ∙ list_any_at named c.all-rules.result place rule within
      (ap named there ∙ named_by rule c.args.name.now same)));
}
