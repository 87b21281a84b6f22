use Rattle.goal_children.proofs.ByKind.{imp_is_first, request_is_first, member_is_first}
use Rattle.goal_children.proofs.children.chosen_from.Goals as goal

-- the implementation comes before all others
pub returns-in-Some : goal.returns-in-Some
returns-in-Some c =
    imp_is_first c.args.memo.query.now c.args.memo.members.now c.args.group c.args.wanted c.args.bound c.in-Some.goal
    (c.goal_kinds_are_one.ensures.fits c.in-Some.goal c.in-Some.ensures.in_range) c.in-Some.ensures

-- and what is asked for before members
pub returns-in-Some-enforced_goal_from : goal.returns-in-Some-enforced_goal_from
returns-in-Some-enforced_goal_from c =
    request_is_first c.args.memo.query.now c.args.memo.members.now c.args.group c.args.wanted c.args.bound
    c.in-Some-enforced_goal_from.goal
    (c.goal_kinds_are_one.ensures.fits c.in-Some-enforced_goal_from.goal c.in-Some-enforced_goal_from.ensures.in_range)
    c.in_default.ensures c.in-Some-enforced_goal_from.ensures

-- members come last
pub returns : goal.returns
returns c =
    member_is_first c.args.memo.query.now c.args.memo.members.now c.args.group c.args.wanted c.args.bound
    c.member_goal_from.result
    c.in_default.ensures c.in_default-enforced_goal_from.ensures c.member_goal_from.ensures
