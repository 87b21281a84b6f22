use Rattle.std.proofs.Common.{rules}
use Rattle.query_core.proofs.Bits.{has_below}
use Rattle.xform_rules.proofs.expand_n_ary.expanded.Goals as goal

-- the table is one of the set
pub of_one-requires : goal.of_one-requires
of_one-requires c = has_below c.in_ok-set.set c.in_ok-table.table (search rules) c.in_ok-table.ensures.cut.0
