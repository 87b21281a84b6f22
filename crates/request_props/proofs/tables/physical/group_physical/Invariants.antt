use Rattle.std.proofs.Common.{◌≡◌, length}
use Rattle.request_props.specs.Candidates.{ArePhysicalBelow}
use Rattle.request_props.proofs.tables.physical.group_physical.Given as goal

-- the physical expressions of the groups with a key below this number are found
abbrev pub invariant-loop-number : goal.invariant-loop-number
invariant-loop-number l = record {
  count : length l.lists.items ≡ l.number;
  each : ArePhysicalBelow l.query l.number l.lists.items;
}
