-- So many ones, or 64 of them.
use Rattle.query_core.proofs.Bits.{bit-first}
use Rattle.std.proofs.Common.{◌-◌, ◌^◌, arith}
use Rattle.request_props.proofs.NumberSets.{ones_have, ones_end, mask_below}
use Rattle.request_props.proofs.number_set.NumberSet.below.Goals as goal

pub returns-then-bound-lt64-clause-all : goal.returns-then-bound-lt64-clause-all
returns-then-bound-lt64-clause-all c few number below =
    ones_have c.args.bound number (omega (arith, c.if-bound-lt64.true)) below

pub returns-then-bound-lt64-clause-only : goal.returns-then-bound-lt64-clause-only
returns-then-bound-lt64-clause-only c number has =
    ones_end c.args.bound number (omega (arith, c.if-bound-lt64.true)) has

pub returns-else-bound-lt64-clause-all : goal.returns-else-bound-lt64-clause-all
returns-else-bound-lt64-clause-all c few number below = bit-first 64 number (omega (arith, few, below))

pub returns-else-bound-lt64-clause-only : goal.returns-else-bound-lt64-clause-only
returns-else-bound-lt64-clause-only c number has =
    omega (arith, mask_below (2 ^ 64 - 1) number (omega arith) has, c.if-bound-lt64.false)
