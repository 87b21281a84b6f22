use Rattle.std.proofs.Common.{◌<◌, ◌≤◌, take, length, get_or, sym, subst, ap, arith}
use Rattle.std.proofs.lemmas.List.{take_all, take_more}
use Rattle.xform_rules.specs.declared.rules.Rule.TheVariants.{ExpandNAry}
use Rattle.goal_children.specs.Finding.{InsertsGoals}
use Rattle.goal_children.proofs.Rules.{IsOfRules, no_rules_inserted, rule_inserted, each_rule_inserted}
use Rattle.goal_children.proofs.expressions.insert_rules.Goals as goal

pub loop-rule-init : goal.loop-rule-init
loop-rule-init c = no_rules_inserted c.args.query.now c.args.phase c.args.e c.args.goals.now.items

-- one more rule
pub loop-rule-preserved : goal.loop-rule-preserved
loop-rule-preserved c =
    let rules = c.all-rules.result in
    let i = c.loop-rule.rule-index in
    let within : i < length rules = omega (arith, ap length c.all-rules.ensures.value, c.loop-rule-test.true) in
    subst (λ rs. InsertsGoals (IsOfRules c.args.query.now c.args.phase c.args.e rs) c.args.goals.now.items
    c.insert_rule.new.goals.items) (sym (take_more rules i ExpandNAry within))
    (rule_inserted c.args.query.now c.args.phase c.args.e (take i rules) (get_or rules i ExpandNAry)
    c.args.goals.now.items c.loop-rule.goals.items c.insert_rule.new.goals.items
    c.loop-rule.invariant c.in_ok-insert_rule.ensures.ok)

-- each rule is one of the list
pub returns : goal.returns
returns c =
    let rules = c.all-rules.result in
    let i = c.loop-rule.rule-index in
    let past : length rules ≤ i = omega (arith, ap length c.all-rules.ensures.value, c.loop-rule-test.false) in
    record {
      ok = each_rule_inserted c.args.query.now c.args.phase c.args.e rules c.args.goals.now.items
          c.loop-rule.goals.items c.all-rules.ensures.every
          (subst (λ rs. InsertsGoals (IsOfRules c.args.query.now c.args.phase c.args.e rs) c.args.goals.now.items
          c.loop-rule.goals.items) (take_all i rules past) c.loop-rule.invariant);
    }
