use Rattle.orca_cli.proofs.StagedOutcomes.{bound_once}
use Rattle.orca_cli.proofs.laws.stages_are_bound_once.Goals as goal

pub returns : goal.returns
returns c = bound_once
