use Rattle.goal_children.proofs.GoalLists.{lists_one, list_over}
use Rattle.goal_children.proofs.laws.goal_lists_are_known.Goals as goal

pub returns : goal.returns
returns c = record {
  one = lists_one;
  over =
      λ q words are. record {
        over = list_over q words (c.goals_are_over_the_query.ensures.goals q) are;
        ascending = are.ascending;
      };
}
