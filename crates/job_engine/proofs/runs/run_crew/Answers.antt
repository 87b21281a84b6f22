-- The first worker is one of the crew.
use Rattle.std.proofs.Common.{◌<◌, sym, subst, ◌∙◌, arith}
use Rattle.job_scheduler.specs.Crews.{AreDoneBelow}
use Rattle.job_engine.proofs.runs.run_crew.Goals as goal

pub work_crew-requires-clause-worker : goal.work_crew-requires-clause-worker
work_crew-requires-clause-worker g c κs within =
    let some = c.requires.workers.0 in record {
      its = c.requires.fresh.its;
      number = subst (λ k. k < c.args.n) (sym c.requires.fresh.number) (omega (arith, some));
      done = subst (AreDoneBelow c.args.n) (sym c.requires.fresh.opening.done) tt;
    }

pub end-requires : goal.end-requires
end-requires g c =
    let w = c.in_ok-worker.ensures in record {
      its = w.its;
      parts = w.parts ∙ c.requires.fresh.opening.parts;
      ended = w.ended;
    }
