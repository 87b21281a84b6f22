-- The sets of the candidates before this one are found.
use Rattle.std.proofs.Common.{◌≡◌, length}
use Rattle.request_props.specs.JoinSets.{AreSetsAt}
use Rattle.request_props.proofs.props.Props.sets_of_all.Given as goal

abbrev pub invariant-loop-candidate : goal.invariant-loop-candidate
invariant-loop-candidate l = record {
  count : length l.sets ≡ l.candidate-index;
  each : AreSetsAt l.query l.candidates l.sets;
}
