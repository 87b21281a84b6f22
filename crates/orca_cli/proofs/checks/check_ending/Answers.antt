-- The text is a valid plan, or has the fault that is told.
use Rattle.std.proofs.Common.{ℕ, List, Ok, Err, refl, ap, ◌∙◌, subst}
use Rattle.std.proofs.lemmas.Result.{IfOk-weaker}
use Rattle.text_check.specs.Outcome.{IsOutcome}
use Rattle.orca_cli.specs.Checked.{IsCheckEnd, priced, faulty}
use Rattle.orca_cli.specs.Texts.{plan_refused}
use Rattle.orca_cli.proofs.Files.{as_ended}
use Rattle.orca_cli.proofs.checks.check_ending.Goals as goal

pub returns-in-Ok : goal.returns-in-Ok
returns-in-Ok c =
    let q = c.args.checked.now.asked.query in
    let plan = c.args.checked.now.plan.items in
    let good = subst (λ (text : List ℕ). IsOutcome q text (Ok c.in-Ok.cost)) c.as_slice.ensures.value
    c.in-Ok.ensures.outcome in
    IfOk-weaker c.valid_plan.result _ _
    (λ ending ends. as_ended (IsCheckEnd q plan) ending _ _ ends (priced refl c.in-Ok.cost good refl))
    c.valid_plan.ensures

pub returns-in_ok-cause-in-Err : goal.returns-in_ok-cause-in-Err
returns-in_ok-cause-in-Err c =
    let q = c.args.checked.now.asked.query in
    let plan = c.args.checked.now.plan.items in
    let has = subst (λ (text : List ℕ). IsOutcome q text (Err c.in-Err.fault)) c.as_slice.ensures.value
    c.in-Err.ensures.outcome in
    let line = ap plan_refused (c.deref.ensures ∙ c.in_ok-cause-in-Err.ensures.text) in
    IfOk-weaker c.refused_plan.result _ _
    (λ ending ends. as_ended (IsCheckEnd q plan) ending _ _ ends
    (faulty refl c.in-Err.fault c.in_ok-cause-in-Err.ensures.not_memory has line))
    c.refused_plan.ensures
