use Rattle.std.proofs.Common.{◌≡◌, length}
use Rattle.request_props.specs.Candidates.{AreCandidatesBelow}
use Rattle.request_props.proofs.tables.candidates.group_candidates.Given as goal

-- the words of the groups with a key below this number are found
abbrev pub invariant-loop-number : goal.invariant-loop-number
invariant-loop-number l = record {
  count : length l.lists.items ≡ l.number;
  each : AreCandidatesBelow l.query l.number l.lists.items;
}
