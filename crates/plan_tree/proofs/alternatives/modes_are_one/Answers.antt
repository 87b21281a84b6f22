use Rattle.plan_tree.proofs.Modes.{modes_same}
use Rattle.plan_tree.proofs.alternatives.modes_are_one.Goals as goal

-- ascending lists of the same numbers are one list
pub returns : goal.returns
returns c = modes_same
