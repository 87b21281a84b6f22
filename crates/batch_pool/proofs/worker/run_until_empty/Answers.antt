use Rattle.std.proofs.Common.{refl, arith}
use Rattle.batch_pool.proofs.Passes.{takes_more}
use Rattle.batch_pool.proofs.Running.{run_none, run_more, run_skip}
use Rattle.batch_pool.proofs.worker.run_until_empty.Goals as goal

-- an item was taken and run
pub loop-take-preserved-in-Continue-branch-2 : goal.loop-take-preserved-in-Continue-branch-2
loop-take-preserved-in-Continue-branch-2 g c =
    let i = c.loop-take.invariant in
    let step = c.in-Some-pop.ensures.some in
    let test = c.if-item-len.true in
    let long = c.len.ensures in (
      tt,
      tt,
      takes_more _ _ _ _ c.in-Some-pop.item i.2 c.pop.ensures.its step,
      run_more _ _ _ _ _ _ _ (record { item = c.in-Some-pop.item; output = c.in_ok-output.output }) i.3
          (omega (arith, test, long)) c.in_ok-output.ensures step c.in_ok-push.ensures.items,
    )

-- a number was taken that is not an item's
pub loop-take-preserved : goal.loop-take-preserved
loop-take-preserved g c =
    let i = c.loop-take.invariant in
    let step = c.in-Some-pop.ensures.some in
    let test = c.if-item-len.false in
    let long = c.len.ensures in (
      tt,
      tt,
      takes_more _ _ _ _ c.in-Some-pop.item i.2 c.pop.ensures.its step,
      run_skip _ _ _ _ _ _ c.in-Some-pop.item i.3 (omega (arith, test, long)) step,
    )

pub loop-take-init : goal.loop-take-init
loop-take-init g c =
    (tt, tt, record { its = c.requires.its; parts = refl; pushed = refl }, run_none _ _ _ _ c.new-ran.ensures.items)
