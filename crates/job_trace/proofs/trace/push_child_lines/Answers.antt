use Rattle.std.proofs.Common.{string_bytes}
use Rattle.job_trace.proofs.Traced.{child_more}
use Rattle.job_trace.proofs.trace.push_child_lines.Goals as goal

-- one more line
pub loop-child-preserved : goal.loop-child-preserved
loop-child-preserved c = record {
  added = child_more c.args.query.now c.args.children.now c.loop-child.child-index _ c.loop-child-test.true
      (string_bytes c.args.text.now) (string_bytes c.loop-child.text)
      (string_bytes c.push_child_line.new.text) c.loop-child.invariant.added c.in_ok-push_child_line.ensures.ok;
  kept = c.in_ok-push_child_line.ensures.kept;
}
