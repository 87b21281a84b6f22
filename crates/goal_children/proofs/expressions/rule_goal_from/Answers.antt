use Rattle.std.proofs.Common.{◌<◌, ◌≤◌, take, length, get_or, sym, subst, ap, arith}
use Rattle.std.proofs.lemmas.List.{take_all, take_more}
use Rattle.xform_rules.specs.declared.rules.Rule.TheVariants.{ExpandNAry}
use Rattle.goal_children.specs.Finding.{FindsFrom}
use Rattle.goal_children.proofs.Finds.{found_in_range}
use Rattle.goal_children.proofs.Rules.{IsOfRules, no_rules, rule_more, each_rule}
use Rattle.goal_children.proofs.expressions.rule_goal_from.Goals as goal

pub loop-rule-init : goal.loop-rule-init
loop-rule-init c = no_rules c.args.query.now c.args.phase c.args.e c.args.bound

pub sooner-next-requires-clause-a : goal.sooner-next-requires-clause-a
sooner-next-requires-clause-a c =
    found_in_range (IsOfRules c.args.query.now c.args.phase c.args.e (take c.loop-rule.rule-index c.all-rules.result))
    c.args.bound c.loop-rule.next c.loop-rule.invariant

pub sooner-next-requires-clause-b : goal.sooner-next-requires-clause-b
sooner-next-requires-clause-b c = found_in_range _ c.args.bound c.goal_of_rule.result c.goal_of_rule.ensures

-- one more rule
pub loop-rule-preserved : goal.loop-rule-preserved
loop-rule-preserved c =
    let rules = c.all-rules.result in
    let i = c.loop-rule.rule-index in
    let within : i < length rules = omega (arith, ap length c.all-rules.ensures.value, c.loop-rule-test.true) in
    subst (λ rs. FindsFrom (IsOfRules c.args.query.now c.args.phase c.args.e rs) c.args.bound c.sooner-next.result)
    (sym (take_more rules i ExpandNAry within))
    (rule_more c.args.query.now c.args.phase c.args.e (take i rules) (get_or rules i ExpandNAry) c.args.bound
    c.loop-rule.next c.goal_of_rule.result c.sooner-next.result
    c.sooner-next.ensures c.loop-rule.invariant c.goal_of_rule.ensures)

-- each rule is one of the list
pub returns : goal.returns
returns c =
    let rules = c.all-rules.result in
    let i = c.loop-rule.rule-index in
    let past : length rules ≤ i = omega (arith, ap length c.all-rules.ensures.value, c.loop-rule-test.false) in
    each_rule c.args.query.now c.args.phase c.args.e rules c.args.bound c.loop-rule.next c.all-rules.ensures.every
    (subst (λ rs. FindsFrom (IsOfRules c.args.query.now c.args.phase c.args.e rs) c.args.bound c.loop-rule.next)
    (take_all i rules past) c.loop-rule.invariant)
