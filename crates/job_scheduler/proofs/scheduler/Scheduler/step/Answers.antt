use Rattle.std.proofs.Common.{◌∙◌, inl, inr, refl}
use Rattle.job_scheduler.proofs.Stepping.{looked_keeps, step_done, step_full, step_idle, idle_alone, turn_keeps}
use Rattle.job_scheduler.proofs.Stepping.{turn_steps, turn_alone, runs_as}
use Rattle.job_scheduler.proofs.Finding.{claims_after, closed_after, full_after}
use Rattle.job_scheduler.proofs.Looking.{looks_both}
use Rattle.job_scheduler.proofs.Standing.{not_open_then}
use Rattle.job_scheduler.proofs.scheduler.Scheduler.step.Goals as goal

pub returns-in-Done-clause-keeps : goal.returns-in-Done-clause-keeps
returns-in-Done-clause-keeps g c = looked_keeps _ _ c.in-Done.ensures.finds.looks

pub returns-in-Full-clause-keeps : goal.returns-in-Full-clause-keeps
returns-in-Full-clause-keeps g c = looked_keeps _ _ c.in-Full.ensures.finds.looks

-- a goal was claimed after the looks, and its turn made
pub returns-in-Claimed-clause-keeps : goal.returns-in-Claimed-clause-keeps
returns-in-Claimed-clause-keeps g c =
    turn_keeps _ _ _ _ _ (claims_after _ _ _ _ _ _ c.in-Open.ensures.finds.looks c.in-Claimed.ensures.seeks) _
    c.requires.worker.free c.run.ensures.keeps

pub returns-in-Claimed-clause-steps : goal.returns-in-Claimed-clause-steps
returns-in-Claimed-clause-steps g c =
    turn_steps _ _ _ _ _ (claims_after _ _ _ _ _ _ c.in-Open.ensures.finds.looks c.in-Claimed.ensures.seeks) _ _ _ _
    c.run.ensures.keeps (runs_as _ _ _ _ _ _ (c.seek.ensures.number ∙ c.look.ensures.number) c.run.ensures.runs)

pub returns-in-Claimed-clause-alone : goal.returns-in-Claimed-clause-alone
returns-in-Claimed-clause-alone g c =
    turn_alone _ _ _ _ _ (claims_after _ _ _ _ _ _ c.in-Open.ensures.finds.looks c.in-Claimed.ensures.seeks) _ _ _
    c.run.ensures.runs c.run.ensures.alone

-- no goal was found ready
pub returns-in-Busy-clause-keeps : goal.returns-in-Busy-clause-keeps
returns-in-Busy-clause-keeps g c = looked_keeps _ _
    (looks_both _ _ _ c.in-Open.ensures.finds.looks c.in-Busy.ensures.seeks.looks)

pub returns-in-Busy-clause-steps : goal.returns-in-Busy-clause-steps
returns-in-Busy-clause-steps g c = step_idle _ _ _ _ _ _ c.in-Open.ensures.finds c.in-Busy.ensures.seeks

pub returns-in-Busy-clause-alone : goal.returns-in-Busy-clause-alone
returns-in-Busy-clause-alone g c = idle_alone _ _ _ _ _ _ c.requires.worker.free c.in-Open.ensures.finds
    c.in-Busy.ensures.seeks

-- the scan was ended by a look
pub returns-in-Done-seek-clause-keeps : goal.returns-in-Done-seek-clause-keeps
returns-in-Done-seek-clause-keeps g c = looked_keeps _ _
    (looks_both _ _ _ c.in-Open.ensures.finds.looks c.in-Done-seek.ensures.seeks.looks)

pub returns-in-Done-seek-clause-steps : goal.returns-in-Done-seek-clause-steps
returns-in-Done-seek-clause-steps g c = step_done _ _ _ _ _
    (closed_after _ _ _ _ _ _ c.in-Open.ensures.finds.looks c.in-Done-seek.ensures.seeks)

pub returns-in-Full-seek-clause-keeps : goal.returns-in-Full-seek-clause-keeps
returns-in-Full-seek-clause-keeps g c = looked_keeps _ _
    (looks_both _ _ _ c.in-Open.ensures.finds.looks c.in-Full-seek.ensures.seeks.looks)

pub returns-in-Full-seek-clause-steps : goal.returns-in-Full-seek-clause-steps
returns-in-Full-seek-clause-steps g c = step_full _ _ _ _ _
    (full_after _ _ _ _ _ c.in-Open.ensures.finds.looks c.in-Full-seek.ensures.seeks)

-- a full board that was seen is not found open
pub returns-in-Done-clause-full : goal.returns-in-Done-clause-full
returns-in-Done-clause-full g c full = inr refl

pub returns-in-Full-clause-full : goal.returns-in-Full-clause-full
returns-in-Full-clause-full g c full = inl refl

pub returns-in-Claimed-clause-full : goal.returns-in-Claimed-clause-full
returns-in-Claimed-clause-full g c full = absurd (not_open_then (c.in-Open.ensures.full full))

pub returns-in-Busy-clause-full : goal.returns-in-Busy-clause-full
returns-in-Busy-clause-full g c full = absurd (not_open_then (c.in-Open.ensures.full full))

pub returns-in-Done-seek-clause-full : goal.returns-in-Done-seek-clause-full
returns-in-Done-seek-clause-full g c full = absurd (not_open_then (c.in-Open.ensures.full full))

pub returns-in-Full-seek-clause-full : goal.returns-in-Full-seek-clause-full
returns-in-Full-seek-clause-full g c full = absurd (not_open_then (c.in-Open.ensures.full full))
