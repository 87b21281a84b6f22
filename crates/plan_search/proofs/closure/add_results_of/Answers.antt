use Rattle.std.proofs.Common.{arith}
use Rattle.plan_search.specs.Steps.{HasResultAt}
use Rattle.plan_search.proofs.Growing.{none_yet, one_more}
use Rattle.plan_search.proofs.FoundSteps.{result_stays}
use Rattle.plan_search.proofs.closure.add_results_of.Goals as goal

pub loop-n-init : goal.loop-n-init
loop-n-init c = none_yet c.args.query.now (HasResultAt c.args.query.now c.args.e c.args.bound c.args.rule)
    c.args.found.now

-- one more number's result is found
pub loop-n-preserved : goal.loop-n-preserved
loop-n-preserved c =
    let q = c.args.query.now in
    one_more q (HasResultAt q c.args.e c.args.bound c.args.rule) (result_stays q c.args.e c.args.bound c.args.rule)
    c.loop-n.n c.args.found.now c.loop-n.found
    c.add_result.new.found c.loop-n.invariant c.in_ok-add_result.ensures

-- there are no more numbers
pub returns : goal.returns
returns c = record {
  grows = c.loop-n.invariant.grows;
  holds = λ n other has.
      c.loop-n.invariant.holds n
      (omega (
        arith,
        c.limit-n-end.ensures,
        c.loop-n-test.false,
        c.results_are_candidates.ensures.few c.args.query.now c.args.rule c.args.e c.args.bound n other has,
      ))
      other has;
}
