use Rattle.std.proofs.Common.{ap, sym, arith, subst}
use Rattle.batch_pool.specs.declared.pass_view.PassView.{PassView}
use Rattle.batch_pool.specs.declared.worker.WorkerRun.{WorkerRun}
use Rattle.batch_pool.specs.Queues.{view_of}
use Rattle.batch_pool.specs.Runs.{IsReturned, ArePlaced}
use Rattle.batch_pool.proofs.Crews.{all_pop, last_pop, sum_by_push_as}
use Rattle.batch_pool.proofs.Running.{returned_run}
use Rattle.batch_pool.proofs.Placing.{placed_first, placed_more}
use Rattle.batch_pool.proofs.crew.gather.Goals as goal

-- the first one that is taken in
pub loop-other-init : goal.loop-other-init
loop-other-init g c =
    let gives = g.B.Batch.gives c.args.batch.now in
    let returned = IsReturned (g.B.Batch.items c.args.batch.now) gives c.args.queue.now c.args._workers in
    let items = c.in-Some.ensures.items in
    let last = last_pop returned _ _ _ items c.requires.each in
    let parts = sum_by_push_as (λ (w : WorkerRun _). (view_of w.pass).parts) _ _ _ items in
    let pushed = sum_by_push_as (λ (w : WorkerRun _). (view_of w.pass).pushed) _ _ _ items in
    let all = c.requires.parts in
    let all_pushed = c.requires.pushed in
    let long = c.place_all.ensures.len in
    let places = c.in_ok-places.ensures in
    let n = c.len.ensures in (
      last.its,
      all_pop returned _ _ _ items c.requires.each,
      omega (arith, parts, all),
      omega (arith, pushed, all_pushed),
      omega (arith, long, places, n),
      placed_first gives c.args._workers _ _ _ _ _ (returned_run _ _ _ _ c.in-Some.field-0 _ c.in_ok-ran.was last)
          c.place_all.ensures.placed,
    )

pub place_all-requires-in-Some-pop-clause-ran : goal.place_all-requires-in-Some-pop-clause-ran
place_all-requires-in-Some-pop-clause-ran g c κs within =
    (returned_run _ _ _ _ c.in-Some-pop.field-0 _ c.in_ok-ran-2.was
    (last_pop (IsReturned (g.B.Batch.items c.args.batch.now) (g.B.Batch.gives c.args.batch.now) c.args.queue.now c.args._workers)
    _ _ _ c.in-Some-pop.ensures.items c.loop-other.invariant.1)).outputs

pub place_all-requires-in-Some-pop-clause-worker : goal.place_all-requires-in-Some-pop-clause-worker
place_all-requires-in-Some-pop-clause-worker g c κs within =
    (last_pop (IsReturned (g.B.Batch.items c.args.batch.now) (g.B.Batch.gives c.args.batch.now) c.args.queue.now c.args._workers)
    _ _ _ c.in-Some-pop.ensures.items c.loop-other.invariant.1).number

pub join-requires-clause-other : goal.join-requires-clause-other
join-requires-clause-other g c =
    (last_pop (IsReturned (g.B.Batch.items c.args.batch.now) (g.B.Batch.gives c.args.batch.now) c.args.queue.now c.args._workers)
    _ _ _ c.in-Some-pop.ensures.items c.loop-other.invariant.1).its

-- one more is taken in
pub loop-other-preserved : goal.loop-other-preserved
loop-other-preserved g c =
    let gives = g.B.Batch.gives c.args.batch.now in
    let n = g.B.Batch.items c.args.batch.now in
    let returned = IsReturned n gives c.args.queue.now c.args._workers in
    let items = c.in-Some-pop.ensures.items in
    let i = c.loop-other.invariant in
    let last = last_pop returned _ _ _ items i.1 in
    let parts = sum_by_push_as (λ (w : WorkerRun _). (view_of w.pass).parts) _ _ _ items in
    let pushed = sum_by_push_as (λ (w : WorkerRun _). (view_of w.pass).pushed) _ _ _ items in
    let all = i.2 in
    let all_pushed = i.3 in
    let joined_parts = ap (λ (h : PassView). h.parts) c.join.ensures.view in
    let joined_pushed = ap (λ (h : PassView). h.pushed) c.join.ensures.view in
    let long = c.place_all-in-Some-pop.ensures.len in
    let was = i.4 in (
      c.join.ensures.its,
      all_pop returned _ _ _ items i.1,
      omega (arith, parts, all, joined_parts),
      omega (arith, pushed, all_pushed, joined_pushed),
      omega (arith, long, was),
      subst (λ (h : PassView). ArePlaced n gives c.args._workers h.taken c.place_all-in-Some-pop.new.places.items)
          (sym c.join.ensures.view)
          (placed_more gives c.args._workers n (view_of c.loop-other.pass).taken _ _ _ _ i.5
          (returned_run _ _ _ _ c.in-Some-pop.field-0 _ c.in_ok-ran-2.was last)
          c.place_all-in-Some-pop.ensures.placed),
    )
