-- the columns before the place were read, and the rest is read after them
use Rattle.std.specs.Vec.Iter.{into_iter_items, into_iter_len}
use Rattle.catalog_json.specs.Walk.{column_at}
use Rattle.catalog_json.proofs.Each.{IsOnTheWay}
use Rattle.catalog_json.proofs.column.read_each_column.Given as goal

abbrev pub invariant-loop-value : goal.invariant-loop-value
invariant-loop-value l = IsOnTheWay (column_at l.version l.t) l.fn.values.items l.columns
    (into_iter_items l.value-iterator) (into_iter_len l.value-iterator)
