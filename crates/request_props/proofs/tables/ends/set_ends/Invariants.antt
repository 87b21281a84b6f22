-- The sets so far: those of each set before this.
use Rattle.request_props.specs.Ends.{AreSetEndsBelow}
use Rattle.request_props.proofs.tables.ends.set_ends.Given as goal

abbrev pub invariant-loop-set : goal.invariant-loop-set
invariant-loop-set l = AreSetEndsBelow l.query l.set l.found.items
