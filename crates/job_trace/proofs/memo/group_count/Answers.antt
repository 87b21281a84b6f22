use Rattle.std.proofs.Common.{arith}
use Rattle.job_trace.proofs.ByGroup.{count_all}
use Rattle.job_trace.proofs.memo.group_count.Goals as goal

-- before the first member, all groups are left
pub loop-member-init : goal.loop-member-init
loop-member-init c = record { all = omega (arith, count_all c.args.members.now); few = omega arith }
