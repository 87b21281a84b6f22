use Rattle.job_scheduler.proofs.Finding.{busy_after, claims_after, closed_after, full_after}
use Rattle.job_scheduler.proofs.Looking.{looks_both}
use Rattle.job_scheduler.proofs.scheduler.Scheduler.scan_piece.Goals as goal

-- a goal that another worker was told of was claimed after all these looks
pub returns-in-Some-claim_stolen-clause-seeks : goal.returns-in-Some-claim_stolen-clause-seeks
returns-in-Some-claim_stolen-clause-seeks g c =
    claims_after _ _ _ _ _ _ (looks_both _ _ _ c.in-None.ensures.sweeps.looks c.in-Open.ensures.finds.looks)
    c.in-Some-claim_stolen.ensures.claims

pub returns-in-None-claim_stolen-clause-seeks : goal.returns-in-None-claim_stolen-clause-seeks
returns-in-None-claim_stolen-clause-seeks g c =
    busy_after _ _ _ _ _ _ _ c.in-None.ensures.sweeps
    (looks_both _ _ _ c.in-Open.ensures.finds.looks c.in-None-claim_stolen.ensures.claims)

pub returns-in-Done-clause-seeks : goal.returns-in-Done-clause-seeks
returns-in-Done-clause-seeks g c = closed_after _ _ _ _ _ _ c.in-None.ensures.sweeps.looks c.in-Done.ensures.finds

pub returns-in-Full-clause-seeks : goal.returns-in-Full-clause-seeks
returns-in-Full-clause-seeks g c = full_after _ _ _ _ _ c.in-None.ensures.sweeps.looks c.in-Full.ensures.finds
