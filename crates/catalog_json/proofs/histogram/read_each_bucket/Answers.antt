use Rattle.std.proofs.Common.{sym, to_z-of_z}
use Rattle.std.specs.Vec.Iter.{into_iter_items, into_iter_len}
use Rattle.std.proofs.lemmas.Result.{err_from_is_err_and}
use Rattle.catalog_json.specs.Walk.{bucket_at}
use Rattle.catalog_json.proofs.Each.{next_read, next_stops, all_read}
use Rattle.catalog_json.proofs.histogram.read_each_bucket.Goals as goal

-- the bucket that was read goes last
pub loop-value-preserved : goal.loop-value-preserved
loop-value-preserved c =
    let loop = c.loop-value in
    let read = sym (rw c.as_slice.ensures at c.in_ok-bucket.ensures) in
    rw (c.in_ok-push.ensures.ok) (next_read _ c.args.values.items loop.buckets (into_iter_items loop.value-iterator)
    (into_iter_items c.next.new.self) (into_iter_len loop.value-iterator) (into_iter_len c.next.new.self)
    c.in-Some.value c.in_ok-bucket.bucket loop.invariant c.in-Some.ensures.steps.0 c.in-Some.ensures.steps.1 read)

-- the first bucket with a fault ends the reading
pub returns-in_err-bucket : goal.returns-in_err-bucket
returns-in_err-bucket c =
    let loop = c.loop-value in
    let raised = err_from_is_err_and c.from_residual-in_err-bucket.result c.from_residual-in_err-bucket.ensures.1 in
    let read = sym (rw (to_z-of_z c.ranges.low, c.as_slice.ensures) at c.in_err-bucket.ensures) in
    rw raised.1 (next_stops (bucket_at c.args.t c.args.c c.args.low) c.args.values.items loop.buckets
    (into_iter_items loop.value-iterator) (into_iter_items c.next.new.self) (into_iter_len loop.value-iterator)
    c.in-Some.value c.in_err-bucket.field-0.0 raised.0 (rw (to_z-of_z c.ranges.low) at loop.invariant)
    c.in-Some.ensures.steps.0 (λ other. read) raised.2)

-- no value is left
pub returns : goal.returns
returns c = all_read (bucket_at c.args.t c.args.c c.args.low) c.args.values.items c.loop-value.buckets
    (into_iter_items c.loop-value.value-iterator) (into_iter_len c.loop-value.value-iterator)
    (rw (to_z-of_z c.ranges.low) at c.loop-value.invariant) c.in-None.ensures.steps.0
