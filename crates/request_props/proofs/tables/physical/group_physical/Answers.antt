use Rattle.std.proofs.Common.{arith}
use Rattle.request_props.specs.Candidates.{ArePhysicalOf}
use Rattle.request_props.proofs.CandidateLists.{lists_more}
use Rattle.request_props.proofs.tables.physical.group_physical.Goals as goal

-- one more group's are found
pub loop-number-preserved : goal.loop-number-preserved
loop-number-preserved c = record {
  count = omega (arith, c.in_ok-push.ensures.len, c.loop-number.invariant.count);
  each = lists_more c.args.query.now (ArePhysicalOf c.args.query.now) c.loop-number.lists.items c.push.new.self.items
      c.loop-number.number c.in_ok-physical_at.field-0
      c.in_ok-push.ensures.items c.loop-number.invariant.count c.loop-number.invariant.each c.in_ok-physical_at.ensures;
}
