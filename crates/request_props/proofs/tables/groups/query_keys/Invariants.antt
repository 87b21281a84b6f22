use Rattle.std.proofs.Common.{◌≡◌, length}
use Rattle.request_props.specs.Groups.{AreKeysBelow}
use Rattle.request_props.proofs.tables.groups.query_keys.Given as goal

-- the keys below this number are told
abbrev pub invariant-loop-number : goal.invariant-loop-number
invariant-loop-number l = record {
  count : length l.keys.items ≡ l.number;
  each : AreKeysBelow l.query l.number
      l.keys.items;
}
