use Rattle.plan_tree.proofs.NodeNumbers.{number_names_one}
use Rattle.plan_tree.proofs.node.nodes_are_one.Goals as goal

pub returns : goal.returns
returns c = number_names_one c.expressions_are_one.ensures.expressions
