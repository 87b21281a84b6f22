use Rattle.std.proofs.Common.{arith}
use Rattle.request_props.proofs.Known.{keys_more}
use Rattle.request_props.proofs.tables.groups.query_keys.Goals as goal

-- one more number is told
pub loop-number-preserved : goal.loop-number-preserved
loop-number-preserved c = record {
  count = omega (arith, c.in_ok-push.ensures.len, c.loop-number.invariant.count);
  each = keys_more c.args.query.now c.loop-number.keys.items c.push.new.self.items c.loop-number.number c.is_key.result
      c.in_ok-push.ensures.items c.loop-number.invariant.count c.loop-number.invariant.each c.is_key.ensures;
}
