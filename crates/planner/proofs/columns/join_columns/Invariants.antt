use Rattle.std.proofs.Common.{◌≡◌, flat_map, take}
use Rattle.query_core.specs.Crossing.{crossing_by}
use Rattle.planner.specs.Columns.{both_sides}
use Rattle.planner.proofs.columns.join_columns.Given as goal

-- the columns of the predicates before this one are there
abbrev pub invariant-loop-pred : goal.invariant-loop-pred
invariant-loop-pred l =
    l.numbers.items ≡ flat_map (λ pred. both_sides (crossing_by l.query l.left l.right pred))
    (take l.pred l.query.preds)
