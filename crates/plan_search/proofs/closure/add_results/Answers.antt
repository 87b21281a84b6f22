use Rattle.std.proofs.Common.{◌<◌, ap, arith, length}
use Rattle.xform_rules.specs.declared.rules.Rule.TheVariants as rules
use Rattle.plan_search.proofs.Growing.{none_yet, one_more}
use Rattle.plan_search.proofs.FoundSteps.{HasResultsAt, results_at, results_at_stay}
use Rattle.plan_search.proofs.closure.add_results.Goals as goal

pub loop-rule-init : goal.loop-rule-init
loop-rule-init c = none_yet c.args.query.now (HasResultsAt c.args.query.now c.args.e c.args.bound c.all-rules.result)
    c.args.found.now

-- one more rule's results are found
pub loop-rule-preserved : goal.loop-rule-preserved
loop-rule-preserved c =
    let q = c.args.query.now in
    let list = c.all-rules.result in
    let at = c.loop-rule.rule-index in
    let before = c.loop-rule.found in
    let after = c.add_results_by.new.found in
    let within : at < length list = omega (arith, ap length c.all-rules.ensures.value, c.loop-rule-test.true) in
    one_more q (HasResultsAt q c.args.e c.args.bound list) (results_at_stay q c.args.e c.args.bound list) at
    c.args.found.now before after
    c.loop-rule.invariant (results_at q c.args.e c.args.bound list at rules.ExpandNAry before after within
    c.in_ok-add_results_by.ensures)

-- each rule is one of the list
pub returns : goal.returns
returns c = record {
  grows = c.loop-rule.invariant.grows;
  holds = λ rule.
      let (k, within, is) = c.all-rules.ensures.every rule in
      c.loop-rule.invariant.holds k (omega (arith, within, ap length c.all-rules.ensures.value, c.loop-rule-test.false))
      rule is;
}
