-- the cost of a plan is the sum of those of its nodes
use Rattle.planner.proofs.Told.{costs_of}
use Rattle.planner.proofs.laws.costs_add_up.Goals as goal

pub returns : goal.returns
returns c = λ q tree. costs_of q tree
