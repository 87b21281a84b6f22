use Rattle.goal_space.specs.declared.goals.GoalKind.TheVariants.{Opt}
use Rattle.goal_children.proofs.ByKind.{chosen_added}
use Rattle.goal_children.proofs.lists.add_chosen.Goals as goal

-- the members that serve stand behind what stands beside them
pub returns : goal.returns
returns c =
    let q = c.args.memo.query.now in
    let words = c.args.memo.members.now in
    let group = c.args.group in
    let wanted = c.args.wanted in
    record {
      ok = chosen_added q words group wanted
          (λ k is. c.goal_kinds_are_one.ensures.fits k
          (c.children_are_over_the_query.ensures.words q c.requires.memo.collected.few_lists
          c.requires.memo.collected.few_orders k
          (c.children_are_over_the_query.ensures.children q words (Opt group wanted) k c.requires.goal is)))
          c.args.goals.now.items c.add_beside.new.goals.items c.push_member_goals.new.goals.items
          c.in_ok-add_beside.ensures.ok c.in_ok-push_member_goals.ensures.ok;
      held = c.in_ok-push_member_goals.ensures.held;
    }
