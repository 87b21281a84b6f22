use Rattle.goal_children.proofs.OneList.{children_one}
use Rattle.goal_children.proofs.laws.children_are_one.Goals as goal

-- children have words, and a word is that of one goal
pub returns : goal.returns
returns c q few_lists few_orders words goal children others over are also =
    children_one q words goal c.goal_kinds_are_one.ensures.one
    (λ child is. c.children_are_over_the_query.ensures.words q few_lists few_orders child
    (c.children_are_over_the_query.ensures.children q words goal child over is))
    children others are also
