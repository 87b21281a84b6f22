use Rattle.std.proofs.Common.{◌≡◌, All, sym, subst}
use Rattle.std.proofs.lemmas.List.Elements.{All-push}
use Rattle.goal_space.specs.Words.{IsGoalInRange}
use Rattle.goal_space.specs.declared.goals.GoalKind.TheVariants.{Imp}
use Rattle.goal_children.proofs.Appending.{appends_one}
use Rattle.goal_children.proofs.ByKind.{beside_added}
use Rattle.goal_children.proofs.lists.add_beside.Goals as goal

-- goals and one more fit
pub insert_enforced-requires-clause-listed : goal.insert_enforced-requires-clause-listed
insert_enforced-requires-clause-listed c =
    subst (All IsGoalInRange) (sym c.in_ok-push.ensures.items)
    (All-push IsGoalInRange c.args.goals.now.items (Imp c.args.group) c.requires.listed
    (c.groups_are_known.ensures.in_range c.args.memo.query.now c.args.group c.requires.goal.of_candidate))

-- the implementation, and behind it what enforcers ask for
pub returns : goal.returns
returns c =
    let group = c.args.group in
    let in_range = c.groups_are_known.ensures.in_range c.args.memo.query.now group c.requires.goal.of_candidate in
    record {
      ok = beside_added c.args.memo.query.now group c.args.wanted c.args.goals.now.items c.push.new.self.items
          c.insert_enforced.new.goals.items
          (c.goal_kinds_are_one.ensures.fits (Imp group) in_range)
          (appends_one (λ k. k ≡ Imp group) c.args.goals.now.items c.push.new.self.items (Imp group)
          (λ k. (λ same. same, λ same. same)) in_range c.in_ok-push.ensures.items)
          c.in_ok-insert_enforced.ensures.ok;
    }
