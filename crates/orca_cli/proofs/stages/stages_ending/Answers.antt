use Rattle.std.proofs.Common.{Some, map, sym, ap, ◌∙◌, subst}
use Rattle.std.proofs.lemmas.Option.{slice_get_within, slice_get-get_or}
use Rattle.plan_lines.specs.Found.{IsFoundText}
use Rattle.plan_tree.specs.declared.plan.Found.TheVariants as founds
use Rattle.stage_plan.specs.Stages.{query_in}
use Rattle.stage_plan.specs.StagedRuns.{IsStagedRun}
use Rattle.command_line.specs.HeldStages.{stage_read, stages_read}
use Rattle.orca_cli.specs.Views.{text_of}
use Rattle.orca_cli.proofs.Searching.{IfOk-both}
use Rattle.orca_cli.proofs.StagedEnds.{found_at, least_end, none_end}
use Rattle.orca_cli.proofs.stages.stages_ending.Goals as goal

-- the plan is the least one of the stage in which its text is made
pub returns-in-Least : goal.returns-in-Least
returns-in-Least g c =
    let q = c.args.staged.now.asked.query in
    let capacity = c.args.settings.capacity in
    let stages = c.as_slice-stages.result.now in
    let ran = c.in_ok-found.field-0.ran in
    let number = c.in-Least.stage in
    let stage = c.index-stages-stage.result in
    let run = subst (λ f. IsStagedRun q capacity stages (record { found = f; ran = c.in_ok-found.field-0.ran }))
    c.in-Least.is
    c.in_ok-found.ensures.run in
    let found = found_at q capacity stages ran c.staged_plans_are_least.ensures number c.in-Least.plan c.in-Least.cost
    run in
    let near = slice_get_within stages number found.at.stage found.at.there in
    let there = slice_get-get_or stages number stage near ∙ ap Some (sym c.index-stages-stage.is) in
    IfOk-both _ _ _ c.told.result
    (λ made status told. let (lines, is_text, is) = told in
    least_end q capacity stages ran (stages_read c.args.staged.now.stages)
    (ap (map stage_read) c.as_slice-stages.ensures.stages) made.status (text_of made) number c.in-Least.plan
    c.in-Least.cost stage lines found there
    (subst (λ r. IsFoundText (query_in r stage) (founds.Least c.in-Least.plan c.in-Least.cost) lines)
    c.run_stages.ensures.same is_text) status is) c.told.ensures.status c.told.ensures.text

-- no stage has a plan
pub returns-in-NoPlan : goal.returns-in-NoPlan
returns-in-NoPlan g c =
    let q = c.args.staged.now.asked.query in
    let capacity = c.args.settings.capacity in
    let stages = c.as_slice-stages.result.now in
    let ran = c.in_ok-found.field-0.ran in
    let run = subst (λ f. IsStagedRun q capacity stages (record { found = f; ran = c.in_ok-found.field-0.ran }))
    c.in-NoPlan.is
    c.in_ok-found.ensures.run in
    IfOk-both _ _ _ c.told-in-NoPlan.result
    (λ made status told. let (lines, printed, is) = told in
    none_end q capacity stages ran (stages_read c.args.staged.now.stages)
    (ap (map stage_read) c.as_slice-stages.ensures.stages) made.status (text_of made) lines run printed status is)
    c.told-in-NoPlan.ensures.status c.told-in-NoPlan.ensures.text
