use Rattle.std.proofs.Common.{length}
use Rattle.request_props.proofs.satisfaction.+columns_begin_with.Given as goal

abbrev pub decreases-columns_begin_with : goal.decreases-columns_begin_with
decreases-columns_begin_with l = length l.columns.now
