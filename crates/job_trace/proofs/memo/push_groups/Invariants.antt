use Rattle.std.proofs.Common.{◌≡◌, ◌++◌, drop, flat_map, string_bytes}
use Rattle.std.specs.List.{concat}
use Rattle.job_trace.specs.Memo.{groups_of, group_lines}
use Rattle.job_trace.proofs.ByGroup.{lines_from}
use Rattle.job_trace.proofs.memo.push_groups.Given as goal

-- the text so far, and the lines of the members that are left, are the whole
abbrev pub invariant-loop-member : goal.invariant-loop-member
invariant-loop-member l =
    string_bytes l.text ++ concat (lines_from l.query l.before (drop l.member-index l.members))
    ≡ string_bytes l.fn.text ++ concat (flat_map (group_lines l.query l.members) (groups_of l.members))
