use Rattle.std.proofs.Common.{◌≡◌, ◌≤◌, drop}
use Rattle.std.specs.List.{fold}
use Rattle.cardinality.specs.Rows.{rows_after, rows_with}
use Rattle.cardinality.proofs.estimate.rows_with.Given as goal

-- what the predicates that are left would leave is what all leave
abbrev pub invariant-loop-pred : goal.invariant-loop-pred
invariant-loop-pred l = record {
  value : fold (rows_after l.query.items l.set l.table) l.left (drop l.pred-index l.query.preds) ≡ rows_with l.query
      l.set l.table l.rows;
  most : l.left ≤ 1000000000000;
}
