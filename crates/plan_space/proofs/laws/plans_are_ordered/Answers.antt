use Rattle.plan_space.proofs.Plans.{IsAtMost-refl, IsAtMost-trans}
use Rattle.plan_space.proofs.laws.plans_are_ordered.Goals as goal

pub returns-clause-itself : goal.returns-clause-itself
returns-clause-itself c = IsAtMost-refl

pub returns-clause-along : goal.returns-clause-along
returns-clause-along c = IsAtMost-trans
