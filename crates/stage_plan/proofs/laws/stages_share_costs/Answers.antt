-- no cost reads the options
use Rattle.std.proofs.Common.{refl}
use Rattle.stage_plan.proofs.laws.stages_share_costs.Goals as goal

pub returns : goal.returns
returns c = λ q stage plan. refl
