use Rattle.query_core.specs.declared.query.Query.{Query}
use Rattle.goal_space.specs.OfMembers.{goals_of_members}
use Rattle.goal_space.specs.Laws.{GoalsAreOfCandidates, GoalRequestsFit}
use Rattle.goal_space.proofs.Wanted.{goal_fits}
use Rattle.goal_space.proofs.InRange.{of_candidate, goal_in_range}
use Rattle.goal_space.proofs.laws.goals_are_known.Goals as goal

candidates : (c : goal.After-what_is_asked_fits) → (q : Query) → GoalsAreOfCandidates q
candidates c q k is_goal = of_candidate q (c.members_are_candidates.ensures q) k (goals_of_members q k is_goal)

requests : (c : goal.After-what_is_asked_fits) → (q : Query) → GoalRequestsFit q
requests c q = goal_fits q (c.root_request_fits.ensures q) (c.what_is_asked_fits.ensures.children q)
    (c.what_is_asked_fits.ensures.enforcers q) (c.members_are_candidates.ensures q)

pub returns : goal.returns
returns c = record {
  members = goals_of_members;
  candidates = candidates c;
  requests = requests c;
  words = λ q few_lists few_orders k is_goal.
      goal_in_range q few_lists few_orders (c.groups_are_known.ensures.in_range q)
      (c.candidates_are_known.ensures.packed q) k (candidates c q k is_goal)
      (requests c q k is_goal);
}
