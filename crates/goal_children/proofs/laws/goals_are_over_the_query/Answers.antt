use Rattle.goal_children.proofs.OfQuery.{goal_over, closure_listed, listed_member, children_as}
use Rattle.goal_children.proofs.laws.goals_are_over_the_query.Goals as goal

pub returns-clause-goals : goal.returns-clause-goals
returns-clause-goals c q g is = goal_over q g (c.goals_are_known.ensures.candidates q g is)
    (c.goals_are_known.ensures.requests q g is)

-- the listed candidates are the members
pub returns-clause-closure : goal.returns-clause-closure
returns-clause-closure c q words g child closure =
    let packed = c.candidates_are_known.ensures.packed q in
    let candidates = c.members_are_candidates.ensures q in (
      children_as q _ _ (listed_member q packed candidates c.expressions_are_one.ensures.expressions words closure) g
          child,
      children_as q _ _ (closure_listed q candidates words closure) g child,
    )
