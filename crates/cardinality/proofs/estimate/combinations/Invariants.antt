use Rattle.std.proofs.Common.{◌≡◌, ◌≤◌, ◌*◌, drop}
use Rattle.std.specs.List.{fold}
use Rattle.cardinality.specs.Factor.{values_of}
use Rattle.cardinality.specs.Rows.{capped, combinations}
use Rattle.cardinality.proofs.estimate.combinations.Given as goal

-- the combinations so far, with those of the columns that are left
abbrev pub invariant-loop-column : goal.invariant-loop-column
invariant-loop-column l = record {
  value : fold (λ count column. capped (count * values_of l.items column)) l.count
      (drop l.column-index l.columns) ≡ combinations l.items l.columns;
  most : l.count ≤ 1000000000000;
}
