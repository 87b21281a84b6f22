use Rattle.std.proofs.Common.{◌<◌, ◌++◌, ◌∷◌, [], length, sym, ap, ◌∙◌, arith, append_assoc, length-append}
use Rattle.batch_pool.proofs.Crews.{all_push}
use Rattle.batch_pool.proofs.Placing.{good_next, outputs_push}
use Rattle.batch_pool.proofs.places.outputs_of.Goals as goal

-- what stands in the place was given, and is pushed
pub loop-place-preserved : goal.loop-place-preserved
loop-place-preserved g c =
    let gives = g.B.Batch.gives c.args._batch.now in
    let seen = c.loop-place.yielded in
    let place = c.in-Some.place in
    let split = c.loop-place.invariant.0 ∙ ap (λ rest. seen ++ rest) c.in-Some.ensures.steps.0 in
    let more = length-append seen (place ∷ []) in
    let long = c.requires.places in
    let ok = c.args.places.ok in
    let good = good_next gives c.args._workers _ _ seen _ place c.in-Some-place.field-0 (omega (arith, long, ok))
    c.requires.results split c.in-Some-place.is in
    let outputs = c.loop-place.invariant.1 in
    let taken = c.loop-place.invariant.2 in
    let out_ok = c.loop-place.outputs.ok in (
      split ∙ sym (append_assoc seen (place ∷ []) _),
      omega (arith, c.in_ok-push.ensures.len, outputs, more),
      omega (arith, c.in_ok-push-2.ensures.len, taken, more),
      outputs_push gives _ _ _ (length seen) c.in_ok-push.ensures.items (omega (arith, outputs, out_ok)) good.0
          c.loop-place.invariant.3,
      all_push (λ worker. worker < c.args._workers) _ _ _ c.in_ok-push-2.ensures.items c.loop-place.invariant.4 good.1,
    )
