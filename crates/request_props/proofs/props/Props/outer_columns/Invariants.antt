-- At most one column is counted for each order before this place.
use Rattle.std.proofs.Common.{◌≤◌}
use Rattle.request_props.proofs.props.Props.outer_columns.Given as goal

abbrev pub invariant-loop-place : goal.invariant-loop-place
invariant-loop-place l = record {
  few : l.count ≤ l.place;
}
