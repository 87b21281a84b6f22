use Rattle.std.proofs.Common.{◌≡◌, ◌≤◌, ◌+◌, drop, length}
use Rattle.job_trace.specs.Memo.{groups_of}
use Rattle.job_trace.proofs.ByGroup.{count_from}
use Rattle.job_trace.proofs.memo.group_count.Given as goal

-- the groups so far, and those that begin among the members that are left, are all
abbrev pub invariant-loop-member : goal.invariant-loop-member
invariant-loop-member l = record {
  all : l.count + count_from l.before (drop l.member-index l.members) ≡ length (groups_of l.members);
  few : l.count ≤ l.member-index;
}
