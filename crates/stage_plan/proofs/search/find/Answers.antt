use Rattle.std.proofs.Common.{◌≡◌, subst}
use Rattle.job_engine.specs.Runs.{RunEnds}
use Rattle.job_outcome.specs.declared.outcome.Outcome.TheVariants as outcomes
use Rattle.stage_plan.proofs.search.find.Goals as goal

-- all entries fit, so there aren't more
pub returns-in_ok-extract-in-Done : goal.returns-in_ok-extract-in-Done
returns-in_ok-extract-in-Done g c =
    let is : c.in_ok-searched.field-0 ≡ outcomes.Done c.in-Done.searched = cc in
    let done =
    subst (λ outcome. RunEnds c.args.query.now c.args.capacity c.args.workers outcome) is c.in_ok-searched.ensures in
    let there = done.lists.lists in (
      c.entries_fit_or_not.ensures c.args.query.now c.args.capacity there.members there.goals
          (done.lists.each there done.lists.are).fits,
      c.in_ok-extract-in-Done.ensures,
    )
