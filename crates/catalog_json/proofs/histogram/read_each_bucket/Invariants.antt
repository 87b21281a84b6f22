-- the buckets before the place were read, and the rest is read after them
use Rattle.std.specs.Vec.Iter.{into_iter_items, into_iter_len}
use Rattle.catalog_json.specs.Walk.{bucket_at}
use Rattle.catalog_json.proofs.Each.{IsOnTheWay}
use Rattle.catalog_json.proofs.histogram.read_each_bucket.Given as goal

abbrev pub invariant-loop-value : goal.invariant-loop-value
invariant-loop-value l = IsOnTheWay (bucket_at l.t l.c l.low) l.fn.values.items l.buckets
    (into_iter_items l.value-iterator) (into_iter_len l.value-iterator)
