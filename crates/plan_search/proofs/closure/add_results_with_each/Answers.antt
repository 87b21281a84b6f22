use Rattle.std.proofs.Common.{Some}
use Rattle.plan_search.specs.Steps.{HasResults}
use Rattle.plan_search.proofs.Growing.{HoldsAt, none_yet, one_more, all_members}
use Rattle.plan_search.proofs.FoundSteps.{results_stay}
use Rattle.plan_search.proofs.closure.add_results_with_each.Goals as goal

pub loop-word-init : goal.loop-word-init
loop-word-init c =
    none_yet c.args.query.now (HoldsAt c.args.query.now (λ bound. HasResults c.args.query.now c.args.e (Some bound))
    c.args.members.now) c.args.found.now

-- the results with one more member are found
pub loop-word-preserved : goal.loop-word-preserved
loop-word-preserved c =
    let q = c.args.query.now in
    let e = c.args.e in
    one_more q (HoldsAt q (λ bound. HasResults q e (Some bound)) c.args.members.now)
    (λ k xs ys grows holds bound member is. results_stay q e (Some bound) xs ys grows (holds bound member is))
    c.loop-word.word-index c.args.found.now c.loop-word.found c.add_results_with.new.found c.loop-word.invariant
    c.in_ok-add_results_with.ensures

-- each member among them has been bound
pub returns : goal.returns
returns c =
    all_members c.args.query.now (λ bound. HasResults c.args.query.now c.args.e (Some bound)) c.args.members.now
    c.loop-word.word-index c.args.found.now
    c.loop-word.found c.loop-word-test.false c.loop-word.invariant
