use Rattle.std.proofs.lemmas.Result.{on_ok_weaker}
use Rattle.goal_children.proofs.Groups.{no_groups_inserted, one_group_inserted, two_groups_inserted}
use Rattle.goal_children.proofs.expressions.insert_groups.Goals as goal

pub returns-in-Zero : goal.returns-in-Zero
returns-in-Zero c = record { ok = no_groups_inserted c.args.phase c.args.children c.args.goals.now.items c.in-Zero.is }

pub returns-in-One : goal.returns-in-One
returns-in-One c = record {
  ok = on_ok_weaker c.insert_goal.result
      (one_group_inserted c.args.phase c.args.children c.in-One.child c.args.goals.now.items
      c.insert_goal.new.goals.items c.of_group.result c.in-One.is c.of_group.ensures)
      c.insert_goal.ensures.ok;
}

pub returns-in_ok-insert_goal-in-Two-2 : goal.returns-in_ok-insert_goal-in-Two-2
returns-in_ok-insert_goal-in-Two-2 c = record {
  ok = two_groups_inserted c.args.phase c.args.children c.in-Two.left c.in-Two.right c.args.goals.now.items
      c.insert_goal-in-Two.new.goals.items c.insert_goal-in-Two-2.new.goals.items
      c.of_group-in-Two.result c.of_group-in-Two-2.result c.in-Two.is c.of_group-in-Two.ensures
      c.of_group-in-Two-2.ensures c.in_ok-insert_goal-in-Two.ensures.ok
      c.in_ok-insert_goal-in-Two-2.ensures.ok;
}
