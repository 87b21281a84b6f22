use Rattle.std.proofs.Common.{◌++◌, ap, string_bytes}
use Rattle.std.specs.List.{concat}
use Rattle.job_trace.proofs.ByGroup.{all_by_group, are_from}
use Rattle.job_trace.proofs.memo.push_groups.Goals as goal

-- before the first member, the lines of all groups are left
pub loop-member-init : goal.loop-member-init
loop-member-init c =
    ap (λ rest. string_bytes c.args.text.now ++ concat rest)
    (all_by_group c.args.query.now c.args.members.now (are_from c.args.members.now c.requires.ascending))
