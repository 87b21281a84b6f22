use Rattle.std.proofs.Common.{arith}
use Rattle.request_props.proofs.Covering.{over_more}
use Rattle.request_props.proofs.tables.lying.tables_of_lists.Goals as goal

-- the tables of one more list are found
pub loop-list-preserved : goal.loop-list-preserved
loop-list-preserved c = record {
  count = omega (arith, c.in_ok-push.ensures.len, c.loop-list.invariant.count);
  each = over_more c.args.query.now c.args.lists.now c.loop-list.found.items c.push.new.self.items
      c.loop-list.list-index c.list-item.result
      c.tables_of.result c.in_ok-push.ensures.items c.loop-list.invariant.count (omega arith) c.list-item.is
      (rw c.as_slice.ensures at c.tables_of.ensures)
      c.loop-list.invariant.each;
}

-- those of all lists are found
pub returns : goal.returns
returns c = record {
  count = omega (arith, c.loop-list.invariant.count);
  each = λ k within. c.loop-list.invariant.each k (omega arith);
}
