use Rattle.std.proofs.Common.{◌≡◌, ◌≤◌, length}
use Rattle.std.specs.List.{All}
use Rattle.request_props.specs.Groups.{AreRowsBelow}
use Rattle.request_props.proofs.tables.groups.group_rows.Given as goal

-- the rows of the groups with a key below this number are found
abbrev pub invariant-loop-number : goal.invariant-loop-number
invariant-loop-number l = record {
  count : length l.found.items ≡ l.number;
  each : AreRowsBelow l.query l.number l.found.items;
  few : All (λ rows. rows ≤ 1000000000000) l.found.items;
}
