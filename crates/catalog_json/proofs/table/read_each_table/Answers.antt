use Rattle.std.proofs.Common.{◌∙◌, ◌++◌, ◌∷◌, [], List, ℕ, sym, ap}
use Rattle.std.specs.Vec.Iter.{into_iter_items, into_iter_len}
use Rattle.std.proofs.lemmas.Result.{err_from_is_err_and}
use Rattle.std.proofs.lemmas.List.{map_push}
use Rattle.catalog_json.specs.Walk.{table_at}
use Rattle.catalog_json.proofs.Each.{next_read, next_stops, all_read}
use Rattle.catalog_json.proofs.table.read_each_table.Goals as goal

-- the table that was read goes last, and its name too
pub loop-value-preserved : goal.loop-value-preserved
loop-value-preserved c =
    let loop = c.loop-value in
    let table = c.in_ok-table.table in
    rw (c.in_ok-push.ensures.ok) (record {
      names = c.in_ok-table.ensures.added ∙ ap (λ (texts : List (List ℕ)). texts ++ table.name ∷ [])
          loop.invariant.names ∙ sym (map_push _ loop.tables table);
      tables = next_read (table_at c.args.version) c.args.values.items loop.tables (into_iter_items loop.value-iterator)
          (into_iter_items c.next.new.self) (into_iter_len loop.value-iterator) (into_iter_len c.next.new.self)
          c.in-Some.value table loop.invariant.tables c.in-Some.ensures.steps.0 c.in-Some.ensures.steps.1
          (rw (← c.as_slice.ensures) c.in_ok-table.ensures.read);
    })

-- the first table with a fault ends the reading
pub returns-in_err-table : goal.returns-in_err-table
returns-in_err-table c =
    let loop = c.loop-value in
    let raised = err_from_is_err_and c.from_residual-in_err-table.result c.from_residual-in_err-table.ensures.1 in
    rw raised.1 (next_stops (table_at c.args.version) c.args.values.items loop.tables
    (into_iter_items loop.value-iterator) (into_iter_items c.next.new.self) (into_iter_len loop.value-iterator)
    c.in-Some.value c.in_err-table.field-0.0 raised.0 loop.invariant.tables c.in-Some.ensures.steps.0
    (rw (← c.as_slice.ensures) c.in_err-table.ensures.read) raised.2)

-- no value is left
pub returns : goal.returns
returns c = all_read (table_at c.args.version) c.args.values.items c.loop-value.tables
    (into_iter_items c.loop-value.value-iterator) (into_iter_len c.loop-value.value-iterator)
    c.loop-value.invariant.tables c.in-None.ensures.steps.0
