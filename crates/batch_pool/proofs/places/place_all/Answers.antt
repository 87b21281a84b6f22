use Rattle.std.proofs.Common.{◌<◌, length, arith}
use Rattle.batch_pool.specs.declared.worker.RanItem.{RanItem}
use Rattle.batch_pool.proofs.Crews.{all_pop, last_pop}
use Rattle.batch_pool.proofs.Running.{run_less}
use Rattle.batch_pool.proofs.Placing.{good_put}
use Rattle.batch_pool.proofs.places.place_all.Goals as goal

-- the last of the list is put into its place
pub loop-one-preserved : goal.loop-one-preserved
loop-one-preserved g c =
    let gives = g.B.Batch.gives c.args._batch.now in
    let P = λ (r : RanItem _). (r.item < g.B.Batch.items c.args._batch.now) × gives r.item r.output in
    let items = c.in-Some.ensures.items in
    let one = c.in-Some.one in
    let places = c.loop-one.places in
    let last = last_pop P _ _ _ items c.loop-one.invariant.1 in
    let near : one.item < length places.items =
    let n = c.requires.places in let long = c.loop-one.invariant.0 in let ok = places.ok in
    omega (arith, last.0, n, long, ok) in (
      c.loop-one.invariant.0,
      all_pop P _ _ _ items c.loop-one.invariant.1,
      λ k more. good_put gives c.args._workers _ _ _ _ k c.set_place.ensures near last.1 c.requires.worker
          (λ ne. let same = run_less k _ _ one items ne in c.loop-one.invariant.2 k (omega (arith, more, same))),
      λ k good. good_put gives c.args._workers _ _ _ _ k c.set_place.ensures near last.1 c.requires.worker
          (λ ne. c.loop-one.invariant.3 k good),
    )
