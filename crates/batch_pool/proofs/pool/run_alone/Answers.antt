use Rattle.std.proofs.Common.{◌<◌, arith}
use Rattle.batch_pool.proofs.Crews.{all_push}
use Rattle.batch_pool.proofs.Placing.{outputs_push}
use Rattle.batch_pool.proofs.pool.run_alone.Goals as goal

-- what the item gave is pushed
pub loop-item-preserved : goal.loop-item-preserved
loop-item-preserved g c =
    let i = c.loop-item.invariant in
    let long = c.in_ok-push.ensures.len in
    let longer = c.in_ok-push-2.ensures.len in
    let outputs = i.0 in
    let taken = i.1 in
    let ok = c.loop-item.outputs.ok in (
      omega (arith, long, outputs),
      omega (arith, longer, taken),
      outputs_push (g.B.Batch.gives c.args.batch.now) _ _ _ c.loop-item.item c.in_ok-push.ensures.items
          (omega (arith, outputs, ok)) c.in_ok-run.ensures i.2,
      all_push (λ worker. worker < 1) _ _ _ c.in_ok-push-2.ensures.items i.3 (omega arith),
    )
