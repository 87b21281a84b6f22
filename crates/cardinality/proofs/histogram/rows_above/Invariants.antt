-- the rows so far, with those of the buckets that are left
use Rattle.std.proofs.Common.{◌≡◌, ◌+◌, ◌<◌, ◌^◌, length}
use Rattle.std.specs.Prelude.{pos, ◌+ℤ◌}
use Rattle.cardinality.specs.Factor.{all_rows, rows_met}
use Rattle.cardinality.proofs.histogram.rows_above.Given as goal

abbrev pub invariant-loop-bucket : goal.invariant-loop-bucket
invariant-loop-bucket l = record {
  value : l.rows + rows_met l.range (l.before.upto +ℤ pos 1) l.rest ≡ rows_met l.range (l.first.upto +ℤ pos 1) l.buckets;
  most : l.rows + all_rows l.rest < 2 ^ 64;
}

abbrev pub decreases-loop-bucket : goal.decreases-loop-bucket
decreases-loop-bucket l = length l.rest
