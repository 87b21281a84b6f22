use Rattle.std.proofs.lemmas.Result.{on_ok_weaker}
use Rattle.goal_children.proofs.Groups.{no_left_inserted, one_left_inserted, two_left_inserted}
use Rattle.goal_children.proofs.expressions.insert_left_group.Goals as goal

pub returns-in-Zero : goal.returns-in-Zero
returns-in-Zero c = record { ok = no_left_inserted c.args.children c.args.goals.now.items c.in-Zero.is }

pub returns-in-One : goal.returns-in-One
returns-in-One c = record {
  ok = on_ok_weaker c.insert_goal.result (one_left_inserted c.args.children c.in-One.child c.args.goals.now.items
      c.insert_goal.new.goals.items c.in-One.is) c.insert_goal.ensures.ok;
}

pub returns-in-Two : goal.returns-in-Two
returns-in-Two c = record {
  ok = on_ok_weaker c.insert_goal-in-Two.result
      (two_left_inserted c.args.children c.in-Two.left _ c.args.goals.now.items c.insert_goal-in-Two.new.goals.items
      c.in-Two.is) c.insert_goal-in-Two.ensures.ok;
}
