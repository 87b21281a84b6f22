use Rattle.plan_search.specs.Steps.{HasBoundResults}
use Rattle.plan_search.proofs.Growing.{HoldsAt, none_yet, one_member_more, all_members}
use Rattle.plan_search.proofs.FoundSteps.{bound_results_stay}
use Rattle.plan_search.proofs.closure.add_all_bound_results.Goals as goal

pub loop-word-init : goal.loop-word-init
loop-word-init c = none_yet c.args.query.now
    (HoldsAt c.args.query.now (HasBoundResults c.args.query.now c.args.new.now) c.args.words.now) c.args.found.now

-- those at one more word are found
pub loop-word-preserved : goal.loop-word-preserved
loop-word-preserved c =
    let q = c.args.query.now in
    let new = c.args.new.now in
    one_member_more q (HasBoundResults q new) c.args.words.now (bound_results_stay q new) c.loop-word.word-index
    c.member_of-e.result c.args.found.now
    c.loop-word.found c.add_bound_results.new.found c.member_of-e.ensures.only c.loop-word.invariant
    c.in_ok-add_bound_results.ensures

pub returns : goal.returns
returns c =
    all_members c.args.query.now (HasBoundResults c.args.query.now c.args.new.now) c.args.words.now
    c.loop-word.word-index c.args.found.now c.loop-word.found
    c.loop-word-test.false c.loop-word.invariant
