-- Those of the words so far.
use Rattle.request_props.proofs.PhysicalLists.{AreFoundBelow}
use Rattle.request_props.proofs.tables.physical.physical_among.Given as goal

abbrev pub invariant-loop-place : goal.invariant-loop-place
invariant-loop-place l = AreFoundBelow l.query l.fn.group l.words l.place l.found
