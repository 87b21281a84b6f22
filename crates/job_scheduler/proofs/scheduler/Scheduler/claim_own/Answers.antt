use Rattle.std.proofs.Common.{refl, ◌∙◌}
use Rattle.job_scheduler.proofs.Looking.{no_look, looks_both}
use Rattle.job_scheduler.proofs.Finding.{claims_after}
use Rattle.job_scheduler.proofs.scheduler.Scheduler.claim_own.Goals as goal

pub loop-hint-init : goal.loop-hint-init
loop-hint-init g c = (c.requires.worker, refl, no_look _)

pub returns-in-Some-clause-claims : goal.returns-in-Some-clause-claims
returns-in-Some-clause-claims g c = claims_after _ _ _ _ _ _ c.loop-hint.invariant.2 c.in-Some.ensures.claims

pub loop-hint-preserved : goal.loop-hint-preserved
loop-hint-preserved g c = (
  c.in_default.ensures.worker,
  c.in_default.ensures.number
      ∙ c.loop-hint.invariant.1,
  looks_both _ _ _ c.loop-hint.invariant.2 c.in_default.ensures.claims,
)
