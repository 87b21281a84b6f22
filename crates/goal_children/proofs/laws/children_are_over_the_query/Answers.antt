use Rattle.goal_children.proofs.OverChildren.{child_over, goal_in_range}
use Rattle.goal_children.proofs.laws.children_are_over_the_query.Goals as goal

pub returns-clause-children : goal.returns-clause-children
returns-clause-children c q = child_over q (c.candidates_are_known.ensures.children q)
    (c.what_is_asked_fits.ensures.children q)

pub returns-clause-words : goal.returns-clause-words
returns-clause-words c q few_lists few_orders =
    goal_in_range q few_lists few_orders (c.groups_are_known.ensures.in_range q)
    (c.candidates_are_known.ensures.packed q)
