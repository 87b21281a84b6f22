use Rattle.std.proofs.Common.{◌≡◌, List, subst}
use Rattle.std.specs.List.{Contains}
use Rattle.std.proofs.lemmas.List.Elements.{All-contains}
use Rattle.goal_space.specs.Words.{goal_word, IsGoalInRange}
use Rattle.goal_space.specs.declared.goals.GoalKind.{GoalKind}
use Rattle.goal_children.specs.GoalLists.{HaveWord, IsPlaceFor}
use Rattle.goal_children.proofs.Inserting.{inserted_at, inserted_before}
use Rattle.goal_children.proofs.OneList.{goal_of_word}
use Rattle.goal_children.proofs.words.insert_goal.Goals as goal

-- it comes to its place
pub returns-in_ok-insert-in-Some : goal.returns-in_ok-insert-in-Some
returns-in_ok-insert-in-Some c =
    let goals = c.args.goals.now.items in
    let place = c.in-Some.place in
    let by_word : IsPlaceFor c.as_slice.result.now (goal_word c.args.goal) place =
    subst (λ w. IsPlaceFor c.as_slice.result.now w place) c.word.ensures.number c.in-Some.ensures in
    let is : IsPlaceFor goals (goal_word c.args.goal) place =
    subst (λ (gs : List GoalKind). IsPlaceFor gs (goal_word c.args.goal) place) c.as_slice.ensures.value by_word in
    record {
      ok = inserted_at goals c.args.goal place c.insert.new.self.items c.in_ok-insert-in-Some.ensures.items
          c.requires.in_range is;
    }

-- a goal of the same word is the same
pub returns-in-None : goal.returns-in-None
returns-in-None c =
    let goals = c.args.goals.now.items in
    let by_word : HaveWord c.as_slice.result.now (goal_word c.args.goal) =
    subst (HaveWord c.as_slice.result.now) c.word.ensures.number c.in-None.ensures in
    let has : HaveWord goals (goal_word c.args.goal) =
    subst (λ (gs : List GoalKind). HaveWord gs (goal_word c.args.goal)) c.as_slice.ensures.value by_word in
    let (other, there, number) = goal_of_word goals (goal_word c.args.goal) has in
    let same : other ≡ c.args.goal = c.goal_kinds_are_one.ensures.one other c.args.goal
    (All-contains IsGoalInRange goals other c.requires.listed there) c.requires.in_range number in
    record { ok = inserted_before goals c.args.goal (subst (Contains goals) same there) }
