use Rattle.std.proofs.Common.{arith}
use Rattle.query_core.proofs.GoalLemmas.{fields_read, goal_one, kinds_rise, number_small}
use Rattle.query_core.proofs.goal_words.goals_are_one.Goals as goal

pub returns : goal.returns
returns c = record {
  one = goal_one;
  fields = fields_read;
  small = number_small;
  kinds = kinds_rise;
  high = λ parts. omega arith;
  low = λ word fits. omega (arith, fits);
}
