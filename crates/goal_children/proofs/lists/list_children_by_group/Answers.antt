use Rattle.std.proofs.lemmas.Result.{on_ok_weaker}
use Rattle.goal_children.proofs.Appending.{are_children, none_listed}
use Rattle.goal_children.proofs.lists.list_children_by_group.Goals as goal

-- the list holds nothing
pub add_children-requires-clause-listed : goal.add_children-requires-clause-listed
add_children-requires-clause-listed c = none_listed c.clear.new.self.items c.clear.ensures.items

-- so all children came to it
pub returns : goal.returns
returns c = record {
  ok = on_ok_weaker c.add_children.result
      (are_children c.args.query.now c.args.members.now c.args.goal c.clear.new.self.items
      c.add_children.new.goals.items c.clear.ensures.items)
      c.add_children.ensures.ok;
  held = c.add_children.ensures.held;
}
