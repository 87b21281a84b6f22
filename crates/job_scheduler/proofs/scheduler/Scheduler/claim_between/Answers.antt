use Rattle.std.proofs.Common.{refl}
use Rattle.job_scheduler.proofs.Looking.{worker_after}
use Rattle.job_scheduler.proofs.Finding.{none_busy, busy_more, busy_within, claim_later}
use Rattle.job_scheduler.proofs.scheduler.Scheduler.claim_between.Goals as goal

pub loop-at-init : goal.loop-at-init
loop-at-init g c = (c.requires.worker, refl, none_busy _ _ _ _)

pub loop-at-preserved : goal.loop-at-preserved
loop-at-preserved g c = (
  worker_after _ _ _ _ c.loop-at.worker _ c.loop-at.invariant.0 c.claim.ensures.seat
      (claim_later _ _ _ _ _ _ c.claim.ensures.answer) c.loop-at.invariant.0.hints c.loop-at.invariant.0.next refl,
  c.loop-at.invariant.1,
  busy_more _ _ _ _ _ _ _ c.loop-at.invariant.2 c.in_default.ensures.answer,
)

pub returns-clause-sweeps : goal.returns-clause-sweeps
returns-clause-sweeps g c = busy_within _ _ _ _ _ _ _ c.loop-at-test.false c.loop-at.invariant.2
