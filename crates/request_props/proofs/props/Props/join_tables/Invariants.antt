-- The sets of the groups before this one are found.
use Rattle.std.proofs.Common.{◌≡◌, length}
use Rattle.request_props.specs.JoinSets.{AreJoinTables}
use Rattle.request_props.proofs.props.Props.join_tables.Given as goal

abbrev pub invariant-loop-candidates : goal.invariant-loop-candidates
invariant-loop-candidates l = record {
  count : length l.tables.items ≡ l.candidates-index;
  each : AreJoinTables l.query l.lists l.tables.items;
}
