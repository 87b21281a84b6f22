use Rattle.std.proofs.Common.{◌∙◌, suc, take, drop, refl, subst}
use Rattle.stage_plan.specs.SoFar.{HaveRun, TakesIn}
use Rattle.stage_plan.specs.StagedRuns.{IsStagedRun}
use Rattle.stage_plan.proofs.Lists.{none_left, split_at, take_more}
use Rattle.stage_plan.proofs.Taken.{next_at}
use Rattle.stage_plan.proofs.run.run_stages.Goals as goal

pub loop-number-init : goal.loop-number-init
loop-number-init g c = record { same = refl; have_run = c.new-so_far.ensures c.args.query.now c.args.capacity }

-- the stage stops
pub returns-in-Some-clause-run : goal.returns-in-Some-clause-run
returns-in-Some-clause-run g c =
    let next =
    next_at c.args.query.now c.loop-number.query c.args.capacity c.args.stages.now c.loop-number.so_far
    c.index-stages-number.result c.loop-number.number c.in_ok-found.found c.args.props.now c.requires.props
    c.loop-number.invariant.same c.loop-number.invariant.have_run c.loop-number-test.true c.in_ok-found.ensures.found in
    let takes =
    subst (λ answer. TakesIn c.loop-number.so_far c.index-stages-number.result c.loop-number.number c.in_ok-found.found
    c.take_in.new.self answer) c.in-Some.is c.in_ok-found-2.ensures in
    subst (λ stages. IsStagedRun c.args.query.now c.args.capacity stages
    (record { found = c.in-Some.found; ran = c.take_in.new.self.ran }))
    (split_at c.args.stages.now c.loop-number.number c.index-stages-number.result c.loop-number-test.true
    c.index-stages-number.is)
    (takes c.args.query.now c.args.capacity (take c.loop-number.number c.args.stages.now)
    (drop (suc c.loop-number.number) c.args.stages.now) next)

-- it doesn't
pub loop-number-preserved : goal.loop-number-preserved
loop-number-preserved g c =
    let next =
    next_at c.args.query.now c.loop-number.query c.args.capacity c.args.stages.now c.loop-number.so_far
    c.index-stages-number.result c.loop-number.number c.in_ok-found.found c.args.props.now c.requires.props
    c.loop-number.invariant.same c.loop-number.invariant.have_run c.loop-number-test.true c.in_ok-found.ensures.found in
    let takes =
    subst (λ answer. TakesIn c.loop-number.so_far c.index-stages-number.result c.loop-number.number c.in_ok-found.found
    c.take_in.new.self answer) (none_left c.in_ok-found-2.field-0 c.in_default.not-Some) c.in_ok-found-2.ensures in
    record {
      same = c.search_stage.ensures.same ∙ c.loop-number.invariant.same;
      have_run =
          subst (λ stages. HaveRun c.args.query.now c.args.capacity stages c.take_in.new.self.ran
          c.take_in.new.self.least)
          (take_more c.args.stages.now c.loop-number.number c.index-stages-number.result c.loop-number-test.true
          c.index-stages-number.is)
          (takes c.args.query.now c.args.capacity (take c.loop-number.number c.args.stages.now) next);
    }
