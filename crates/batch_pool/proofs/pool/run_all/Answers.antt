use Rattle.std.proofs.Common.{ap, sym, ◌∙◌, subst, arith}
use Rattle.batch_pool.specs.declared.pass_view.PassView.{PassView}
use Rattle.batch_pool.specs.Rule.{HasEachOnce}
use Rattle.batch_pool.specs.Queues.{view_of}
use Rattle.batch_pool.specs.Runs.{ArePlaced}
use Rattle.batch_pool.proofs.Passes.{stays_of, parts_back, pushes_back}
use Rattle.batch_pool.proofs.Placing.{good_all, placed_more}
use Rattle.batch_pool.proofs.pool.run_all.Goals as goal

-- each worker came back with its parts
pub gather-requires-clause-parts : goal.gather-requires-clause-parts
gather-requires-clause-parts g c κs within =
    let long = c.in_ok-crew-2.ensures.len in
    let ok = c.in_ok-crew-2.crew.ok in
    let was_ok = c.in_ok-crew.crew.ok in
    parts_back c.in_ok-queue.queue c.in_ok-crew.crew.items c.in_ok-crew-2.crew.items (omega (arith, long, ok, was_ok))
    (λ i d e near. let t = c.in_ok-crew-2.ensures.each i e near in stays_of _ _ _ _ (t.1.job_is d) t.1.call.met.pass)
    ∙ c.in_ok-crew.ensures.parts

-- and with its pushes
pub gather-requires-clause-pushed : goal.gather-requires-clause-pushed
gather-requires-clause-pushed g c κs within =
    let long = c.in_ok-crew-2.ensures.len in
    let ok = c.in_ok-crew-2.crew.ok in
    let was_ok = c.in_ok-crew.crew.ok in
    pushes_back c.in_ok-queue.queue c.in_ok-crew.crew.items c.in_ok-crew-2.crew.items (omega (arith, long, ok, was_ok))
    (λ i d e near. let t = c.in_ok-crew-2.ensures.each i e near in stays_of _ _ _ _ (t.1.job_is d) t.1.call.met.pass)
    ∙ (c.in_ok-crew.ensures.pushed ∙ (ap (λ (h : PassView). h.pushed) c.in_ok-queue.ensures.view ∙ c.len-n.ensures))

-- each item stands in its place, as the pass with all parts has taken each
pub outputs_of-requires-clause-results : goal.outputs_of-requires-clause-results
outputs_of-requires-clause-results g c κs within =
    let gives = g.B.Batch.gives c.args.batch.now in
    let n = g.B.Batch.items c.args.batch.now in
    let all = c.in_ok-pass.ensures in
    let rest = c.in_ok-rest.ensures in
    let taken = (view_of c.run_until_empty.new.pass).taken in
    good_all n gives c.args.workers taken c.place_all.new.places.items
    (subst (λ m. HasEachOnce m taken) (rest.stays.pushed ∙ all.pushed) (rest.all all.parts))
    (subst (λ l. ArePlaced n gives c.args.workers l c.place_all.new.places.items) (sym rest.ran.taken)
    (placed_more gives c.args.workers n (view_of c.in_ok-pass.pass).taken _ _ _ _ all.placed rest.ran.are_run
    c.place_all.ensures.placed))
