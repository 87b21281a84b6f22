use Rattle.std.proofs.Common.{arith}
use Rattle.job_scheduler.proofs.Finding.{seeks_round}
use Rattle.job_scheduler.proofs.scheduler.Scheduler.scan_all.Goals as goal

pub returns-in-Busy-clause-seeks : goal.returns-in-Busy-clause-seeks
returns-in-Busy-clause-seeks g c = seeks_round _ _ _ _ _ _ _ _ _ _ (omega arith) c.in-Busy.ensures.seeks
    c.scan-in-Busy.ensures.seeks
