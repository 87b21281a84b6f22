use Rattle.std.proofs.Common.{◌≡◌, take}
use Rattle.stage_plan.specs.SoFar.{HaveRun}
use Rattle.stage_plan.proofs.run.run_stages.Given as goal

-- the stages before this one have run, and none stopped; the query is as it was
abbrev pub invariant-loop-number : goal.invariant-loop-number
invariant-loop-number g l = record {
  same : l.query ≡ l.fn.query;
  have_run : HaveRun l.fn.query l.capacity (take l.number l.stages) l.so_far.ran l.so_far.least;
}
