use Rattle.std.proofs.Common.{◌≡◌, Option, Some, sym, subst, ap, ◌∙◌}
use Rattle.std.specs.Prelude.{IfSome}
use Rattle.goal_space.specs.Words.{IsGoalInRange}
use Rattle.goal_space.specs.declared.goals.GoalKind.{GoalKind}
use Rattle.goal_children.proofs.Appending.{appends_nothing, appends_one}
use Rattle.goal_children.proofs.members.push_found.Goals as goal

-- the one goal comes
pub returns-in_ok-push-in-Some : goal.returns-in_ok-push-in-Some
returns-in_ok-push-in-Some c =
    let found = c.args.found in
    let this = c.in-Some.goal in
    let is : found ≡ Some this = c.in-Some.is in
    record {
      ok = appends_one (λ k. found ≡ Some k) c.args.goals.now.items c.push.new.self.items this
          (λ k. (λ same. (let both : Some this ≡ Some k = sym is ∙ same in cc), λ also. is ∙ ap Some (sym also)))
          (subst (λ (o : Option GoalKind). IfSome o IsGoalInRange) is c.requires) c.in_ok-push-in-Some.ensures.items;
    }

-- or none
pub returns-in-None : goal.returns-in-None
returns-in-None c = record {
  ok = appends_nothing (λ k. c.args.found ≡ Some k) c.args.goals.now.items (λ k same. let none = c.in-None.is in
      absurd (cc));
}
