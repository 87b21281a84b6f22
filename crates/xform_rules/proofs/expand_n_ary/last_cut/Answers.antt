use Rattle.std.proofs.Common.{rules, arith}
use Rattle.query_core.proofs.Bits.{has_below}
use Rattle.xform_rules.proofs.expand_n_ary.last_cut.Goals as goal

-- the set has no table from 32 on
pub loop-table-init : goal.loop-table-init
loop-table-init c t above cut = absurd (omega (arith, has_below c.args.set t (search rules) cut.0))
