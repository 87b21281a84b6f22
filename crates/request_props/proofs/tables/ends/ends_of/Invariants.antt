-- The sets have the predicates before this one.
use Rattle.request_props.specs.Counted.{IsAmong}
use Rattle.request_props.specs.Ends.{AreEndsBelow}
use Rattle.request_props.proofs.tables.ends.ends_of.Given as goal

abbrev pub invariant-loop-pred : goal.invariant-loop-pred
invariant-loop-pred l = AreEndsBelow l.query (IsAmong l.query l.columns) l.pred l.ends
