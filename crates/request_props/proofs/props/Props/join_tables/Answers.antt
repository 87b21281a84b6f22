-- The sets of one more group are found.
use Rattle.std.proofs.Common.{arith}
use Rattle.request_props.proofs.JoinSetLemmas.{tables_more}
use Rattle.request_props.proofs.props.Props.join_tables.Goals as goal

pub sets_of_all-requires-clause-fitting : goal.sets_of_all-requires-clause-fitting
sets_of_all-requires-clause-fitting c = rw c.as_slice-fitting.ensures.value c.in_ok-fitting.ensures

pub loop-candidates-preserved : goal.loop-candidates-preserved
loop-candidates-preserved c = record {
  count = omega (arith, c.in_ok-push.ensures.len, c.loop-candidates.invariant.count);
  each = tables_more c.args.query.now c.as_slice-lists.result.now c.loop-candidates.tables.items c.push.new.self.items
      c.loop-candidates.candidates-index c.candidates-item.result c.in_ok-sets_of_all.field-0
      c.in_ok-push.ensures.items c.loop-candidates.invariant.count c.loop-candidates-test.true c.candidates-item.is
      (rw c.as_slice.ensures at c.in_ok-sets_of_all.ensures) c.loop-candidates.invariant.each;
}
