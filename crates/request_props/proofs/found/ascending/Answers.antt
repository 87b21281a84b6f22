use Rattle.std.proofs.Common.{◌*◌, get_or, refl}
use Rattle.request_props.proofs.Mapped.{map_done, map_push}
use Rattle.request_props.proofs.found.ascending.Goals as goal

-- one more column's element is found
pub loop-column-preserved : goal.loop-column-preserved
loop-column-preserved c =
    let column = get_or c.args.columns.now c.loop-column.column-index 0 in
    map_push (λ column. 2 * column) c.args.columns.now c.loop-column.elements.items c.push.new.self.items
    c.loop-column.column-index column 0 (2 * column) c.loop-column-test.true refl refl c.in_ok-push.ensures.items
    c.loop-column.invariant

-- no column is left
pub returns : goal.returns
returns c =
    map_done (λ column. 2 * column) c.args.columns.now c.loop-column.elements.items c.loop-column.column-index
    c.loop-column-test.false c.loop-column.invariant
