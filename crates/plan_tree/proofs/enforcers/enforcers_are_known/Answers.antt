use Rattle.plan_tree.proofs.Kept.{enforcer_lies, enforcer_in_range}
use Rattle.plan_tree.proofs.enforcers.enforcers_are_known.Goals as goal

pub returns : goal.returns
returns c = record { lie = enforcer_lies; in_range = enforcer_in_range }
