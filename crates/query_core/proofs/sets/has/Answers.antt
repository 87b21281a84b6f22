use Rattle.std.proofs.Common.{rules, arith}
use Rattle.std.proofs.lemmas.Bool.{ltb-true}
use Rattle.query_core.proofs.Bits.{has_below}
use Rattle.query_core.proofs.sets.has.Goals as goal

-- a set has no table from 32 on
pub returns-else-table-lt32 : goal.returns-else-table-lt32
returns-else-table-lt32 c = (
  λ less. absurd (omega (arith, ltb-true c.args.table 32 less, c.if-table-lt32.false)),
  λ has. absurd (omega (arith, has_below c.args.set c.args.table (search rules) has, c.if-table-lt32.false)),
)
