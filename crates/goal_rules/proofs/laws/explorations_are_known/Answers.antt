use Rattle.goal_space.specs.declared.goals.GoalKind.TheVariants.{Exp}
use Rattle.goal_rules.proofs.Exploring.{exploration}
use Rattle.goal_rules.proofs.laws.explorations_are_known.Goals as goal

pub returns : goal.returns
returns c q props is_props group is_goal =
    let in_range = c.goals_are_known.ensures.words q is_props.few_lists is_props.few_orders (Exp group) is_goal in
    exploration q group is_goal (c.results_are_known.ensures.explored q) (c.members_are_candidates.ensures q)
    (c.members_are_explored.ensures q)
    (c.entries_are_known.ensures.members q) (c.entries_are_known.ensures.goals q props is_props (Exp group) in_range)
