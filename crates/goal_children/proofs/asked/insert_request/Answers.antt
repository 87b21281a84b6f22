use Rattle.std.proofs.lemmas.Result.{on_ok_weaker}
use Rattle.goal_children.proofs.Inserting.{nothing_inserted, request_inserted}
use Rattle.goal_children.proofs.asked.insert_request.Goals as goal

pub returns-in-Some : goal.returns-in-Some
returns-in-Some c = record {
  ok = on_ok_weaker c.insert_goal.result (request_inserted c.args.group c.args.wanted c.in-Some.wanted
      c.args.goals.now.items c.insert_goal.new.goals.items c.in-Some.is) c.insert_goal.ensures.ok;
}

pub returns-in-None : goal.returns-in-None
returns-in-None c = record { ok = nothing_inserted c.args.group c.args.wanted c.args.goals.now.items c.in-None.is }
