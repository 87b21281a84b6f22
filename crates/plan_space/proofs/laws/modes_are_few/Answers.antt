use Rattle.plan_space.proofs.FewModes.{few_modes}
use Rattle.plan_space.proofs.laws.modes_are_few.Goals as goal

-- a mode is 0 or 64, or the number of a predicate, of which there are at most 40, after 0, 64 or 128, or the number of
-- a list after 128
pub returns : goal.returns
returns c = record { few = few_modes }
