use Rattle.std.proofs.lemmas.Result.{on_ok_weaker}
use Rattle.goal_children.proofs.Inserting.{none_inserted, one_inserted, two_inserted}
use Rattle.goal_children.proofs.asked.insert_wished.Goals as goal

pub returns-in-Zero : goal.returns-in-Zero
returns-in-Zero c = record {
  ok = none_inserted c.args.children c.args.first c.args.second c.args.goals.now.items c.in-Zero.is;
}

pub returns-in-One : goal.returns-in-One
returns-in-One c = record {
  ok = on_ok_weaker c.insert_request.result
      (one_inserted c.args.children c.args.first c.args.second c.in-One.child c.args.goals.now.items
      c.insert_request.new.goals.items c.in-One.is)
      c.insert_request.ensures.ok;
}

pub returns-in_ok-insert_request-in-Two-2 : goal.returns-in_ok-insert_request-in-Two-2
returns-in_ok-insert_request-in-Two-2 c = record {
  ok = two_inserted c.args.children c.args.first c.args.second c.in-Two.left c.in-Two.right c.args.goals.now.items
      c.insert_request-in-Two.new.goals.items
      c.insert_request-in-Two-2.new.goals.items c.in-Two.is c.in_ok-insert_request-in-Two.ensures.ok
      c.in_ok-insert_request-in-Two-2.ensures.ok;
}
