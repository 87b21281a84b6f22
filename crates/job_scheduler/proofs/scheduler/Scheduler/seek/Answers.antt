use Rattle.job_scheduler.proofs.Finding.{claims_after, seeks_after}
use Rattle.job_scheduler.proofs.Looking.{looks_both}
use Rattle.job_scheduler.proofs.scheduler.Scheduler.seek.Goals as goal

pub returns-in-Some-claim_stolen-clause-seeks : goal.returns-in-Some-claim_stolen-clause-seeks
returns-in-Some-claim_stolen-clause-seeks g c =
    claims_after _ _ _ _ _ _ c.in-None.ensures.claims c.in-Some-claim_stolen.ensures.claims

pub returns-in-None-claim_stolen-clause-seeks : goal.returns-in-None-claim_stolen-clause-seeks
returns-in-None-claim_stolen-clause-seeks g c =
    seeks_after _ _ _ _ _ _ _ _ _ (looks_both _ _ _ c.in-None.ensures.claims c.in-None-claim_stolen.ensures.claims)
    c.scan_all.ensures.seeks
