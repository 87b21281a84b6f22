use Rattle.goal_space.proofs.Bits.{no_bit}
use Rattle.goal_space.proofs.ranks.bit.Goals as goal

pub returns-else-has-clause-value : goal.returns-else-has-clause-value
returns-else-has-clause-value c = no_bit c.args.set c.args.table c.if-has.ensures
