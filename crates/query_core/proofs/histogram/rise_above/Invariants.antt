-- the buckets that are left rise above the last one that was looked at where all rise above the first
use Rattle.std.proofs.Common.{◌≡◌, length}
use Rattle.query_core.specs.Histogram.{ends_rise_above}
use Rattle.query_core.proofs.histogram.rise_above.Given as goal

abbrev pub invariant-loop-bucket : goal.invariant-loop-bucket
invariant-loop-bucket l = ends_rise_above l.before.upto l.rest ≡ ends_rise_above l.first.upto l.buckets

abbrev pub decreases-loop-bucket : goal.decreases-loop-bucket
decreases-loop-bucket l = length l.rest
