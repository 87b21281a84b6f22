use Rattle.std.proofs.Common.{refl, inl, inr, ◌∙◌}
use Rattle.job_scheduler.proofs.Looking.{worker_after}
use Rattle.job_scheduler.proofs.Turning.{finishes_keeps, finishes_one, suspends_keeps, suspends_one, runs_out_keeps}
use Rattle.job_scheduler.proofs.Turning.{runs_out}
use Rattle.job_scheduler.proofs.scheduler.Scheduler.run.Goals as goal

pub returns-in-Finished-clause-keeps : goal.returns-in-Finished-clause-keeps
returns-in-Finished-clause-keeps g c = finishes_keeps _ _ _ _ _ _ _ c.in-Finished.ensures.turns

pub returns-in-Suspended-clause-keeps : goal.returns-in-Suspended-clause-keeps
returns-in-Suspended-clause-keeps g c = suspends_keeps _ _ _ _ _ _ c.in-Suspended.ensures.turns

pub returns-in-Full-clause-keeps : goal.returns-in-Full-clause-keeps
returns-in-Full-clause-keeps g c = runs_out_keeps _ _ _ _ _ _ c.in-Full.ensures.turns

pub returns-in-Finished-clause-runs : goal.returns-in-Finished-clause-runs
returns-in-Finished-clause-runs g c = inl (finishes_one _ _ _ _ _ _ _ c.in-Finished.ensures.turns)

pub returns-in-Suspended-clause-runs : goal.returns-in-Suspended-clause-runs
returns-in-Suspended-clause-runs g c = inr
    (suspends_one _ _ _ _ _ c.requires.fresh c.requires.only _ c.in-Suspended.ensures.turns)

pub returns-in-Full-clause-runs : goal.returns-in-Full-clause-runs
returns-in-Full-clause-runs g c = runs_out _ _ _ _ _ _ c.in-Full.ensures.turns

pub returns-in-Finished-clause-worker : goal.returns-in-Finished-clause-worker
returns-in-Finished-clause-worker g c =
    let keeps = finishes_keeps _ _ _ _ _ _ _ c.in-Finished.ensures.turns in record {
      its = worker_after _ _ _ _ c.args.worker.now _ c.requires.worker c.turn-turned.ensures.seat keeps.looks
          (c.turn-turned.ensures.hints ∙ c.requires.worker.hints) c.requires.worker.next refl;
      free = keeps.rights c.requires.only;
    }

pub returns-in-Suspended-clause-worker : goal.returns-in-Suspended-clause-worker
returns-in-Suspended-clause-worker g c =
    let keeps = suspends_keeps _ _ _ _ _ _ c.in-Suspended.ensures.turns in record {
      its = worker_after _ _ _ _ c.args.worker.now _ c.requires.worker c.turn-turned.ensures.seat keeps.looks
          (c.turn-turned.ensures.hints ∙ c.requires.worker.hints) c.requires.worker.next refl;
      free = keeps.rights c.requires.only;
    }

pub returns-in-Full-clause-worker : goal.returns-in-Full-clause-worker
returns-in-Full-clause-worker g c =
    let keeps = runs_out_keeps _ _ _ _ _ _ c.in-Full.ensures.turns in record {
      its = worker_after _ _ _ _ c.args.worker.now _ c.requires.worker c.turn-turned.ensures.seat keeps.looks
          (c.turn-turned.ensures.hints ∙ c.requires.worker.hints) c.requires.worker.next refl;
      free = keeps.rights c.requires.only;
    }
