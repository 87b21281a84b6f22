use Rattle.std.proofs.Common.{◌≡◌}
use Rattle.goal_space.specs.declared.goals.GoalKind.TheVariants.{Exp}
use Rattle.goal_children.proofs.Appending.{appends_one}
use Rattle.goal_children.proofs.ByKind.{implemented_added}
use Rattle.goal_children.proofs.lists.add_implemented.Goals as goal

-- the exploration, and behind it the members
pub returns : goal.returns
returns c =
    let q = c.args.memo.query.now in
    let group = c.args.group in
    let in_range = c.groups_are_known.ensures.in_range q group c.requires.known in
    record {
      ok = implemented_added q c.args.memo.members.now group c.args.goals.now.items c.push.new.self.items
          c.push_member_goals.new.goals.items
          (c.goal_kinds_are_one.ensures.fits (Exp group) in_range)
          (appends_one (λ k. k ≡ Exp group) c.args.goals.now.items c.push.new.self.items (Exp group)
          (λ k. (λ same. same, λ same. same)) in_range c.in_ok-push.ensures.items)
          c.in_ok-push_member_goals.ensures.ok;
      held = c.in_ok-push_member_goals.ensures.held;
    }
