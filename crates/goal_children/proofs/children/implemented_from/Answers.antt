use Rattle.std.proofs.Common.{◌≡◌}
use Rattle.goal_space.specs.declared.goals.GoalKind.TheVariants.{Exp}
use Rattle.goal_space.specs.declared.phase.Phase.TheVariants.{Implementation}
use Rattle.goal_children.specs.declared.jobs.MemberJob.TheVariants.{Transform}
use Rattle.goal_children.specs.Finding.{IsOfMembers}
use Rattle.goal_children.proofs.Finds.{found_in_range, sooner_is}
use Rattle.goal_children.proofs.children.implemented_from.Goals as goal

pub sooner-requires-clause-b : goal.sooner-requires-clause-b
sooner-requires-clause-b c =
    found_in_range (IsOfMembers c.args.memo.query.now c.args.memo.members.now c.args.group (Transform Implementation))
    c.args.bound c.member_goal_from.result c.member_goal_from.ensures

pub returns : goal.returns
returns c =
    sooner_is (λ k. k ≡ Exp c.args.group) (IsOfMembers c.args.memo.query.now c.args.memo.members.now c.args.group
    (Transform Implementation)) c.args.bound
    c.goal_from.result c.member_goal_from.result c.sooner.result c.sooner.ensures c.goal_from.ensures
    c.member_goal_from.ensures
