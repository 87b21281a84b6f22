use Rattle.std.proofs.Common.{◌≡◌, ◌++◌, drop}
use Rattle.std.specs.Prelude.{flat_map}
use Rattle.request_props.specs.Found.{sides_of, joined_columns}
use Rattle.request_props.proofs.found.joined_columns.Given as goal

-- the columns so far, and those of the predicates that are left
abbrev pub invariant-loop-pred : goal.invariant-loop-pred
invariant-loop-pred l =
    l.columns.items ++ flat_map (sides_of l.query.items) (drop l.pred-index l.query.preds) ≡ joined_columns l.query
