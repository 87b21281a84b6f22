use Rattle.goal_children.proofs.Alternatives.{two_asked}
use Rattle.goal_children.proofs.choice.wished_goal_from.Goals as goal

pub returns-in-Two : goal.returns-in-Two
returns-in-Two c =
    two_asked c.args.children c.args.first c.args.second c.in-Two.left c.in-Two.right c.args.bound _ _ c.sooner.result
    c.in-Two.is c.sooner.ensures
    c.asked_of_group-in-Two.ensures c.asked_of_group-in-Two-2.ensures
