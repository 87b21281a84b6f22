use Rattle.std.proofs.Common.{map, take, string_bytes}
use Rattle.std.specs.List.{concat}
use Rattle.query_text.specs.Added.{AddsText}
use Rattle.job_trace.specs.Pieces.{AreWritten}
use Rattle.job_trace.specs.Goals.{child_line}
use Rattle.job_trace.proofs.trace.push_child_lines.Given as goal

-- the lines of the children before this one were added, and pieces have their texts
abbrev pub invariant-loop-child : goal.invariant-loop-child
invariant-loop-child l = record {
  added : AddsText (string_bytes l.fn.text) (concat (map (child_line l.query) (take l.child-index l.children)))
      (string_bytes l.text);
  kept : AreWritten l.query l.pieces;
}
