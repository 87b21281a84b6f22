use Rattle.std.proofs.Common.{arith}
use Rattle.goal_space.specs.Words.{parts_of, IsGoalInRange}
use Rattle.goal_space.specs.declared.goals.GoalKind.{GoalKind}
use Rattle.goal_space.proofs.OneWord.{goal_fits, word_one}
use Rattle.goal_space.proofs.words.goal_kinds_are_one.Goals as goal

pub returns : goal.returns
returns c =
    let exprs = c.expressions_are_one.ensures in
    let near = c.groups_are_known.ensures.small in
    let rules = c.rules_are_known.ensures in
    let fits = goal_fits exprs.expressions exprs.groups exprs.small near rules in
    record {
      one = word_one exprs.expressions exprs.groups exprs.small near rules c.goals_are_one.ensures.one;
      fits = fits;
      high = λ (k : GoalKind). omega arith;
      small = λ (k : GoalKind) (in_range : IsGoalInRange k). c.goals_are_one.ensures.small (parts_of k)
          (fits k in_range);
    }
