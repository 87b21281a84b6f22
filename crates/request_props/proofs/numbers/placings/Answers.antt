use Rattle.request_props.specs.Numbered.{dist_by}
use Rattle.request_props.proofs.Mapped.{map_done, map_push}
use Rattle.request_props.proofs.numbers.placings.Goals as goal

-- what is found of one more table is there
pub loop-table-preserved : goal.loop-table-preserved
loop-table-preserved c =
    let all = c.as_slice-table-items.ensures in
    map_push (λ table. dist_by c.args.query.now table.hashed) c.args.query.now.tables c.loop-table.found.items
    c.push.new.self.items c.loop-table.table-index c.table-item.result _ c.placing.result
    (rw all at c.loop-table-test.true) (rw all at c.table-item.is) c.placing.ensures c.in_ok-push.ensures.items
    c.loop-table.invariant

-- no table is left
pub returns : goal.returns
returns c =
    let all = c.as_slice-table-items.ensures in
    map_done (λ table. dist_by c.args.query.now table.hashed) c.args.query.now.tables c.loop-table.found.items
    c.loop-table.table-index (rw all at c.loop-table-test.false) c.loop-table.invariant
