use Rattle.std.proofs.Common.{refl}
use Rattle.stage_plan.proofs.OtherOptions.{props_with}
use Rattle.stage_plan.proofs.laws.stages_share_props.Goals as goal

pub returns : goal.returns
returns c = λ q stage props. props_with q _ _ props refl
