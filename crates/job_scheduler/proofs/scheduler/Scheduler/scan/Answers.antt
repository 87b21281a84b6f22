use Rattle.std.proofs.Common.{refl, ◌∙◌}
use Rattle.job_scheduler.proofs.Finding.{none_busy, busy_both, busy_within, seeks_on}
use Rattle.job_scheduler.proofs.scheduler.Scheduler.scan.Goals as goal

pub loop-at-init : goal.loop-at-init
loop-at-init g c = (c.requires.worker, refl, none_busy _ _ _ _)

pub loop-at-preserved : goal.loop-at-preserved
loop-at-preserved g c = (
  c.in-Busy.ensures.worker,
  c.in-Busy.ensures.number ∙ c.loop-at.invariant.1,
  busy_both _ _ _ _ _ _ _ _ c.loop-at.invariant.2 c.in-Busy.ensures.seeks,
)

pub returns-in_default : goal.returns-in_default
returns-in_default g c = record {
  worker = c.scan_piece.ensures.worker;
  number = c.scan_piece.ensures.number ∙ c.loop-at.invariant.1;
  seeks = seeks_on _ _ _ _ _ _ _ _ _ _ _ c.in_default.not-Busy c.loop-at.invariant.2.looks c.scan_piece.ensures.seeks;
}

pub returns-clause-seeks : goal.returns-clause-seeks
returns-clause-seeks g c = busy_within _ _ _ _ _ _ _ c.loop-at-test.false c.loop-at.invariant.2
