use Rattle.std.proofs.Common.{sym, ap, ◌∙◌, arith}
use Rattle.goal_board.specs.Seats.{hands}
use Rattle.job_scheduler.specs.declared.worker.Worker.{Worker}
use Rattle.job_scheduler.proofs.Crewing.{parts_same}
use Rattle.job_scheduler.proofs.scheduler.Scheduler.work_crew.Goals as goal

-- each worker that came back is one that worked
pub gather-requires-clause-each : goal.gather-requires-clause-each
gather-requires-clause-each g c κs within = λ k d near.
    let long = c.in_ok-crew-2.ensures.len in
    let ok = c.in_ok-crew-2.crew.ok in
    let was_ok = c.in_ok-crew.crew.ok in
    let t = c.in_ok-crew-2.ensures.each k d (omega (arith, near, long, ok, was_ok)) in
    (t.1.call.met.its, t.1.call.met.ended)

pub gather-requires-clause-parts : goal.gather-requires-clause-parts
gather-requires-clause-parts g c κs within =
    let long = c.in_ok-crew-2.ensures.len in
    let ok = c.in_ok-crew-2.crew.ok in
    let was_ok = c.in_ok-crew.crew.ok in
    parts_same c.in_ok-crew.crew.items c.in_ok-crew-2.crew.items (omega (arith, long, ok, was_ok))
    (λ i d near. let t = c.in_ok-crew-2.ensures.each i d near in t.1.call.met.parts
    ∙ ap (λ (w : Worker _). (hands w.seat).parts) (sym (t.1.job_is d)))
    ∙ c.in_ok-crew.ensures.parts
