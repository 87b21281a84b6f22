use Rattle.std.proofs.Common.{sym, subst, ◌∙◌, ◌<◌}
use Rattle.job_scheduler.proofs.Ending.{done_below, done_ends, full_ends}
use Rattle.job_scheduler.proofs.scheduler.Scheduler.work_alone.Goals as goal

pub returns-in-Done : goal.returns-in-Done
returns-in-Done g c = record {
  worked = record {
    its = record {
      its = c.step.ensures.worker;
      number = subst (λ n. n < 1) (sym c.step.ensures.number) c.loop.invariant.0.number;
      done = done_below _ _ _ _ _ _ _ _ c.loop.invariant.0.number c.step.ensures.steps c.loop.invariant.0.done;
    };
    parts = c.step.ensures.keeps.parts ∙ c.loop.invariant.1;
    ended = done_ends _ _ _ 0 0 _ _ c.in-Done.ensures.steps;
  };
}

pub returns-in-Full : goal.returns-in-Full
returns-in-Full g c = record {
  worked = record {
    its = record {
      its = c.step.ensures.worker;
      number = subst (λ n. n < 1) (sym c.step.ensures.number) c.loop.invariant.0.number;
      done = done_below _ _ _ _ _ _ _ _ c.loop.invariant.0.number c.step.ensures.steps c.loop.invariant.0.done;
    };
    parts = c.step.ensures.keeps.parts ∙ c.loop.invariant.1;
    ended = full_ends _ _ _ 0 0 _ _ c.in-Full.ensures.steps;
  };
}
