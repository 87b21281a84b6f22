-- A rule that the set has is added, and each other left out.
use Rattle.std.proofs.Common.{◌≡◌, ℕ, ◌+◌, List, Bor, String, Global, get_or, length, sym, ap, ◌∙◌, arith, codes, subst}
use Rattle.std.proofs.Common.{string_bytes}
use Rattle.std.proofs.lemmas.Bool.{false≢true}
use Rattle.xform_rules.specs.Rules.{all_rules, rule_number}
use Rattle.xform_rules.specs.declared.rules.Rule.{Rule}
use Rattle.xform_rules.specs.declared.rules.Rule.TheVariants.{ExpandNAry}
use Rattle.dump_replay.specs.Lines.{rules_line}
use Rattle.query_core.specs.Sets.{Has}
use Rattle.dump_replay.proofs.OffLines.{IsSpelled, none_spelled, rule_added, rule_left, rules_before}
use Rattle.dump_replay.proofs.spelling.off_line.Goals as goal
use Rattle.dump_replay.proofs.spelling.off_line.Goals.{then-has+in_ok-push_name, else-has}

pub loop-rule-init : goal.loop-rule-init
loop-rule-init c = subst (λ (line : List ℕ). IsSpelled c.args.off 0 line (codes " ")) (sym c.in_ok-line.ensures.ok)
    (none_spelled c.args.off)

pub loop-rule-preserved : goal.loop-rule-preserved
loop-rule-preserved c =
    let rule : Rule = get_or c.all.result c.loop-rule.rule-index ExpandNAry in
    let here : rule ≡ get_or all_rules c.loop-rule.rule-index ExpandNAry =
    ap (λ (rs : List Rule). get_or rs c.loop-rule.rule-index ExpandNAry) c.all.ensures.value in
    elim c.if-has.branch [
      | then-has+in_ok-push_name w ↦
          rule_added c.args.off c.loop-rule.rule-index rule (string_bytes c.loop-rule.line) c.loop-rule.before.now
          (string_bytes c.if-has.line) c.if-has.before.now c.loop-rule.invariant c.loop-rule-test.true here
          (subst (Has c.args.off) c.number.ensures.value (c.has.ensures.0 w.if-has.true))
          (ap string_bytes w.line-is ∙ w.in_ok-push_name.ensures) (ap (λ b. b.now) w.before-is)
      | else-has w ↦
          let fails : Has c.args.off (rule_number rule) → ⊥ = λ has. absurd (false≢true (sym w.if-has.false
          ∙ c.has.ensures.1 (subst (Has c.args.off) (sym c.number.ensures.value) has))) in
          subst (λ (line : String Global). IsSpelled c.args.off (c.loop-rule.rule-index + 1) (string_bytes line)
          c.if-has.before.now) (sym w.line-is)
          (subst (λ (before : Bor (List ℕ)). IsSpelled c.args.off (c.loop-rule.rule-index + 1)
          (string_bytes c.loop-rule.line) before.now) (sym w.before-is)
          (rule_left c.args.off c.loop-rule.rule-index rule (string_bytes c.loop-rule.line) c.loop-rule.before.now
          c.loop-rule.invariant c.loop-rule-test.true here fails))
    ]

pub returns : goal.returns
returns c =
    let all : c.loop-rule.rule-index ≡ length all_rules = omega arith in
    c.loop-rule.invariant.spelled ∙ ap (λ (n : ℕ). rules_line (rules_before c.args.off n)) all
