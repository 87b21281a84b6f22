use Rattle.std.proofs.Common.{◌++◌, ap, ◌∙◌}
use Rattle.job_trace.specs.Trace.{trace_line}
use Rattle.job_trace.proofs.trace.trace_line.Goals as goal

-- the line counts these goals
pub returns : goal.returns
returns c = record {
  kinds = c.in_ok-goals.goals.items;
  have = c.in_ok-goals.ensures;
  is_line = ap (λ v. v.items) c.into_bytes.ensures.value ∙ c.in_ok-push_trace_line.ensures.ok
      ∙ ap (λ text. text ++ trace_line c.as_slice.result.now) c.new-line.ensures.bytes
      ∙ ap trace_line c.as_slice.ensures.value;
}
