use Rattle.std.proofs.Common.{◌-◌, ◌≤◌, length}
use Rattle.query_core.specs.declared.query.Query.{Query}
use Rattle.job_trace.specs.Pieces.{AreWritten}
use Rattle.job_trace.proofs.pieces.Pieces.new.Given as goal

-- the places so far hold nothing, and are no more than wanted
abbrev pub invariant-loop-places : goal.invariant-loop-places
invariant-loop-places l = record {
  kept : (q : Query) → AreWritten q l.places.items;
  few : length l.places.items ≤ l.count;
}

abbrev pub decreases-loop-places : goal.decreases-loop-places
decreases-loop-places l = l.count - length l.places.items
