-- The sets so far: those of each number before this.
use Rattle.request_props.specs.Counted.{IsColumnBy}
use Rattle.request_props.specs.Ends.{AreEnds}
use Rattle.request_props.proofs.tables.ends.ends_by.Given as goal

abbrev pub invariant-loop-number : goal.invariant-loop-number
invariant-loop-number l = AreEnds l.query (IsColumnBy l.query l.by) l.number l.found.items
