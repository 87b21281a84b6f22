use Rattle.std.proofs.Common.{length}
use Rattle.request_props.proofs.tables.lying.+tables_of.Given as goal

abbrev pub decreases-tables_of : goal.decreases-tables_of
decreases-tables_of l = length l.list.now
