use Rattle.std.proofs.Common.{◌≡◌, ◌≤◌}
use Rattle.cardinality.specs.Rows.{rows_upto}
use Rattle.cardinality.proofs.estimate.joined_rows.Given as goal

-- the tables below this one have joined
abbrev pub invariant-loop-table : goal.invariant-loop-table
invariant-loop-table l = record {
  value : l.rows ≡ rows_upto l.query l.set l.table;
  most : l.rows ≤ 1000000000000;
}
