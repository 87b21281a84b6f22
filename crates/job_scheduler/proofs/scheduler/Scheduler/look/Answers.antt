use Rattle.std.proofs.Common.{inl, inr, refl}
use Rattle.job_scheduler.proofs.Finding.{full_stays, answer_looks, answer_closed, full_set, root_open, not_open}
use Rattle.job_scheduler.proofs.scheduler.Scheduler.look.Goals as goal

pub returns-in-Some-clause-finds : goal.returns-in-Some-clause-finds
returns-in-Some-clause-finds g c = answer_closed _ _ _ _ _ _ c.in-Some.ensures.answer

pub returns-then-full_seen-clause-finds : goal.returns-then-full_seen-clause-finds
returns-then-full_seen-clause-finds g c =
    full_set _ _ _ _ _ (answer_looks _ _ _ _ _ _ c.answer.ensures.answer) c.if-full_seen.ensures.answer

pub returns-then-full_seen-clause-closed : goal.returns-then-full_seen-clause-closed
returns-then-full_seen-clause-closed g c closed =
    absurd (not_open _ _ _ _ _ _ c.args.self.now.near c.requires.worker.root_shown closed c.in-None.ensures.answer)

pub returns-else-full_seen-clause-finds : goal.returns-else-full_seen-clause-finds
returns-else-full_seen-clause-finds g c =
    root_open _ _ _ _ _ _ _ c.requires.worker.root_shown c.in-None.ensures.answer c.if-full_seen.ensures.answer

pub returns-else-full_seen-clause-closed : goal.returns-else-full_seen-clause-closed
returns-else-full_seen-clause-closed g c closed =
    absurd (not_open _ _ _ _ _ _ c.args.self.now.near c.requires.worker.root_shown closed c.in-None.ensures.answer)

pub returns-in-Some-clause-full : goal.returns-in-Some-clause-full
returns-in-Some-clause-full g c full = inr refl

pub returns-then-full_seen-clause-full : goal.returns-then-full_seen-clause-full
returns-then-full_seen-clause-full g c full = inl refl

pub returns-else-full_seen-clause-full : goal.returns-else-full_seen-clause-full
returns-else-full_seen-clause-full g c full =
    absurd (full_stays _ _ _ _ _ (answer_looks _ _ _ _ _ _ c.answer.ensures.answer) full c.if-full_seen.ensures.answer)
