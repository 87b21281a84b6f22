use Rattle.std.proofs.Common.{take, string_bytes}
use Rattle.goal_children.specs.GroupMembers.{AreHeldFor}
use Rattle.job_trace.specs.GoalLines.{AddsTraced}
use Rattle.job_trace.specs.Pieces.{AreWritten}
use Rattle.job_trace.proofs.trace.push_all_traced.Given as goal

-- the lines of the goals before this one were added, pieces have their texts, and members are those of their group
abbrev pub invariant-loop-goal : goal.invariant-loop-goal
invariant-loop-goal l = record {
  added : AddsTraced l.query l.members (take l.goal-index l.goals) (string_bytes l.fn.text) (string_bytes l.text);
  kept : AreWritten l.query l.pieces;
  held : AreHeldFor l.members l.held;
}
