-- The first worker is a crew of one.
use Rattle.std.proofs.Common.{◌<◌, sym, subst, ◌∙◌, arith}
use Rattle.job_scheduler.specs.Crews.{AreDoneBelow}
use Rattle.job_engine.proofs.runs.run_alone.Goals as goal

pub work_alone-requires-clause-worker : goal.work_alone-requires-clause-worker
work_alone-requires-clause-worker c κs within = record {
  its = c.requires.its;
  number = subst (λ n. n < 1) (sym c.requires.number) (omega arith);
  done = subst (AreDoneBelow 1) (sym c.requires.opening.done) tt;
}

pub work_alone-requires-clause-alone : goal.work_alone-requires-clause-alone
work_alone-requires-clause-alone c κs within = (_, c.requires.opening.kept)

pub end-requires : goal.end-requires
end-requires c =
    let w = c.work_alone.ensures.worked in record {
      its = w.its;
      parts = w.parts ∙ c.requires.opening.parts;
      ended = w.ended;
    }
