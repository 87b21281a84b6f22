use Rattle.std.specs.Vec.Iter.{into_iter_items, into_iter_len}
use Rattle.std.proofs.lemmas.Result.{err_from_is_err_and}
use Rattle.serde_json.specs.View.{view}
use Rattle.catalog_json.specs.Walk.{column_at}
use Rattle.catalog_json.proofs.Each.{added, not_added, next_read, next_stops, all_read}
use Rattle.catalog_json.proofs.column.read_each_column.Goals as goal

-- the columns have grown by the one that was read
pub loop-value-preserved : goal.loop-value-preserved
loop-value-preserved c =
    let loop = c.loop-value in
    let column = added loop.columns (column_at c.args.version c.args.t loop.columns (view c.in-Some.value))
    c.read.new.self c.in_ok-read.ensures in
    rw column.2 (next_read (column_at c.args.version c.args.t) c.args.values.items loop.columns
    (into_iter_items loop.value-iterator) (into_iter_items c.next.new.self) (into_iter_len loop.value-iterator)
    (into_iter_len c.next.new.self) c.in-Some.value column.0 loop.invariant c.in-Some.ensures.steps.0 c.in-Some.ensures.steps.1 column.1)

-- the first column with a fault ends the reading
pub returns-in_err-read : goal.returns-in_err-read
returns-in_err-read c =
    let loop = c.loop-value in
    let fault = c.in_err-read.field-0.0 in
    let raised = err_from_is_err_and c.from_residual-in_err-read.result c.from_residual-in_err-read.ensures.1 in
    rw raised.1 (next_stops (column_at c.args.version c.args.t) c.args.values.items loop.columns
    (into_iter_items loop.value-iterator) (into_iter_items c.next.new.self) (into_iter_len loop.value-iterator)
    c.in-Some.value fault raised.0 loop.invariant c.in-Some.ensures.steps.0
    (λ other. not_added loop.columns (column_at c.args.version c.args.t loop.columns (view c.in-Some.value)) fault
    (c.in_err-read.ensures other)) raised.2)

-- no value is left
pub returns : goal.returns
returns c = all_read (column_at c.args.version c.args.t) c.args.values.items c.loop-value.columns
    (into_iter_items c.loop-value.value-iterator) (into_iter_len c.loop-value.value-iterator) c.loop-value.invariant
    c.in-None.ensures.steps.0
