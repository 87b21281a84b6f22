-- What was found for the numbers before this one fits the groups that it names.
use Rattle.std.specs.List.{All}
use Rattle.request_props.specs.JoinSets.{AreFitting}
use Rattle.request_props.proofs.props.Props.fitting_tables.Given as goal

abbrev pub invariant-loop-number : goal.invariant-loop-number
invariant-loop-number l = All (AreFitting l.query) l.found.items
