-- each node tells how many stand below it, so the list can be cut into the plans below
use Rattle.planner.proofs.Told.{told_plan}
use Rattle.planner.proofs.laws.nodes_tell_the_plan.Goals as goal

pub returns : goal.returns
returns c = λ q a b same. told_plan q a b same
