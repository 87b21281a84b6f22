use Rattle.goal_children.proofs.Groups.{groups_find}
use Rattle.goal_children.proofs.expressions.group_goal_from.Goals as goal

pub returns-in-Two : goal.returns-in-Two
returns-in-Two c =
    groups_find c.args.phase c.args.children c.in-Two.left c.in-Two.right c.args.bound _ _ c.sooner.result _ _
    c.in-Two.is
    c.of_group-in-Two.ensures c.of_group-in-Two-2.ensures c.sooner.ensures c.goal_from-in-Two.ensures
    c.goal_from-in-Two-2.ensures
