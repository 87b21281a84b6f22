-- Those whose left side has a key below this number are found.
use Rattle.request_props.specs.Joins.{AreSidesBelow}
use Rattle.request_props.proofs.tables.candidates.sides.push_of_one.Given as goal

abbrev pub invariant-loop-left : goal.invariant-loop-left
invariant-loop-left l = AreSidesBelow l.query l.set l.left l.found
