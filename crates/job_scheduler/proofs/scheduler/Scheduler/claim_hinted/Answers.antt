use Rattle.std.proofs.Common.{refl}
use Rattle.job_scheduler.proofs.Looking.{no_look, worker_after}
use Rattle.job_scheduler.proofs.Finding.{claims_one, claim_later}
use Rattle.job_scheduler.proofs.scheduler.Scheduler.claim_hinted.Goals as goal

pub returns-in-Some-clause-worker : goal.returns-in-Some-clause-worker
returns-in-Some-clause-worker g c = worker_after _ _ _ _ c.args.worker.now _ c.requires.worker c.claim.ensures.seat
    (claim_later _ _ _ _ _ _ c.claim.ensures.answer) c.requires.worker.hints c.requires.worker.next refl

pub returns-in-Some-clause-claims : goal.returns-in-Some-clause-claims
returns-in-Some-clause-claims g c = claims_one _ _ _ _ _ _ c.claim.ensures.answer

pub returns-in-None-clause-claims : goal.returns-in-None-clause-claims
returns-in-None-clause-claims g c = no_look _
