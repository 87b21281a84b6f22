-- Those whose left side is one table, or several with a lesser number, are found.
use Rattle.std.proofs.Common.{◌+◌}
use Rattle.query_core.specs.declared.keys.TheConstants.{FIRST_SET_KEY}
use Rattle.request_props.specs.Joins.{AreSidesBelow}
use Rattle.request_props.proofs.tables.candidates.sides.push_of_several.Given as goal

abbrev pub invariant-loop-tables : goal.invariant-loop-tables
invariant-loop-tables l = AreSidesBelow l.query l.set (FIRST_SET_KEY + l.tables) l.found
