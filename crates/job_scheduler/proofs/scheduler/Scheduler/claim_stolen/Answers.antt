use Rattle.std.proofs.Common.{refl, ◌∙◌}
use Rattle.job_scheduler.proofs.Looking.{no_look, looks_both}
use Rattle.job_scheduler.proofs.Finding.{claims_after}
use Rattle.job_scheduler.proofs.scheduler.Scheduler.claim_stolen.Goals as goal

pub loop-other-init : goal.loop-other-init
loop-other-init g c = (c.requires.worker, refl, no_look _)

pub returns-in-Some-clause-claims : goal.returns-in-Some-clause-claims
returns-in-Some-clause-claims g c = claims_after _ _ _ _ _ _ c.loop-other.invariant.2 c.in-Some.ensures.claims

pub loop-other-preserved : goal.loop-other-preserved
loop-other-preserved g c = (
  c.in_default.ensures.worker,
  c.in_default.ensures.number
      ∙ c.loop-other.invariant.1,
  looks_both _ _ _ c.loop-other.invariant.2 c.in_default.ensures.claims,
)
