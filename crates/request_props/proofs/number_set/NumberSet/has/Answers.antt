use Rattle.std.proofs.Common.{rules, arith}
use Rattle.std.proofs.lemmas.Bool.{ltb-true}
use Rattle.request_props.proofs.NumberSets.{mask_below, tested}
use Rattle.request_props.proofs.number_set.NumberSet.has.Goals as goal

pub returns-then-number-lt64 : goal.returns-then-number-lt64
returns-then-number-lt64 c = tested c.args.self.mask c.args.number

-- a set has no number from 64 on
pub returns-else-number-lt64 : goal.returns-else-number-lt64
returns-else-number-lt64 c = (
  λ less. absurd (omega (arith, ltb-true c.args.number 64 less, c.if-number-lt64.false)),
  λ has. absurd (omega (arith, mask_below c.args.self.mask c.args.number (search rules) has, c.if-number-lt64.false)),
)
