use Rattle.std.proofs.Common.{sym, subst}
use Rattle.stage_plan.specs.StagedRuns.{IsStagedRun}
use Rattle.stage_plan.proofs.Taken.{ended}
use Rattle.stage_plan.proofs.so_far.SoFar.end.Goals as goal

-- the last stage there is was the last, and it isn't enough
pub returns : goal.returns
returns c = λ q capacity stages some have.
    subst (λ found. IsStagedRun q capacity stages (record { found = found; ran = c.args.self.ran }))
    (sym c.answer_in.ensures)
    (ended q capacity stages c.args.self.ran c.args.self.least some have)
