use Rattle.stage_plan.proofs.OneStaging.{plans_of_stages}
use Rattle.stage_plan.proofs.laws.staged_plans_are_least.Goals as goal

pub returns : goal.returns
returns c = plans_of_stages
