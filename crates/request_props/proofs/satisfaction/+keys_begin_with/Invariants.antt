use Rattle.std.proofs.Common.{length}
use Rattle.request_props.proofs.satisfaction.+keys_begin_with.Given as goal

abbrev pub decreases-keys_begin_with : goal.decreases-keys_begin_with
decreases-keys_begin_with l = length l.keys.now
