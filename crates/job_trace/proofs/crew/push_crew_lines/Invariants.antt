use Rattle.std.proofs.Common.{◌≡◌, ◌++◌, drop, string_bytes}
use Rattle.std.specs.List.{concat}
use Rattle.job_trace.specs.Pieces.{AreWritten}
use Rattle.job_trace.specs.Trace.{crew_lines}
use Rattle.job_trace.proofs.crew.push_crew_lines.Given as goal

-- what was added so far, and the lines that are left, are the whole, and pieces have their texts
abbrev pub invariant-loop-place : goal.invariant-loop-place
invariant-loop-place l = record {
  added :
      string_bytes l.text ++ concat (crew_lines l.query (drop l.place l.goals) (drop l.place l.who))
      ≡ string_bytes l.fn.text ++ concat (crew_lines l.query l.goals l.who);
  kept : AreWritten l.query l.pieces;
}
