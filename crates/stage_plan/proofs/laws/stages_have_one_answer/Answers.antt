-- stages are split in one way, and the least plan of each stage is one
use Rattle.stage_plan.proofs.OneStaging.{one_staging}
use Rattle.stage_plan.proofs.laws.stages_have_one_answer.Goals as goal

pub returns : goal.returns
returns c = one_staging c.least_is_one.ensures
