use Rattle.goal_space.specs.Goals.{IsGoal}
use Rattle.goal_space.specs.Words.{IsGoalInRange}
use Rattle.goal_space.specs.declared.goals.GoalKind.{GoalKind}
use Rattle.goal_rules.proofs.Falling.{word_ranks_fall}
use Rattle.goal_rules.proofs.OneAnswer.{answers_one}
use Rattle.goal_rules.proofs.rules.Rules.new.Goals as goal

-- a query with props has few lists and orders, so its goals have words
in_range : (c : goal.After-ranks_are_known) → (k : GoalKind) → IsGoal c.args.query.now k → IsGoalInRange k
in_range c k is_goal = c.goals_are_known.ensures.words c.args.query.now c.requires.few_lists c.requires.few_orders k
    is_goal

pub invariant_of-result : goal.invariant_of-result
invariant_of-result c =
    let q = c.args.query.now in
    let kinds = c.goal_kinds_are_one.ensures in
    record {
      ranks = word_ranks_fall q (c.ranks_fall.ensures.closure q) (c.goals_are_known.ensures.candidates q) (in_range c)
          c.ranks_are_known.ensures;
      answers = answers_one q (c.answers_are_best.ensures.one q c.args.props.now c.requires) (in_range c) kinds.one;
    }
