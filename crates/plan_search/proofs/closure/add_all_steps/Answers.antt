use Rattle.plan_search.specs.Steps.{HasSteps}
use Rattle.plan_search.proofs.Growing.{HoldsAt, none_yet, one_member_more, all_members}
use Rattle.plan_search.proofs.FoundSteps.{steps_stay}
use Rattle.plan_search.proofs.closure.add_all_steps.Goals as goal

pub loop-word-init : goal.loop-word-init
loop-word-init c = none_yet c.args.query.now
    (HoldsAt c.args.query.now (HasSteps c.args.query.now c.args.words.now) c.args.new.now) c.args.found.now

-- those from one more word are found
pub loop-word-preserved : goal.loop-word-preserved
loop-word-preserved c =
    let q = c.args.query.now in
    let words = c.args.words.now in
    one_member_more q (HasSteps q words) c.args.new.now (steps_stay q words) c.loop-word.word-index c.member_of-e.result
    c.args.found.now c.loop-word.found
    c.add_steps.new.found c.member_of-e.ensures.only c.loop-word.invariant c.in_ok-add_steps.ensures

pub returns : goal.returns
returns c =
    all_members c.args.query.now (HasSteps c.args.query.now c.args.words.now) c.args.new.now c.loop-word.word-index
    c.args.found.now c.loop-word.found
    c.loop-word-test.false c.loop-word.invariant
