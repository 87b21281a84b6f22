-- no key before the place is refused
use Rattle.std.proofs.Common.{◌≡◌, drop}
use Rattle.sql_bind.specs.Grouping.{first_of, loose_keys}
use Rattle.sql_bind.proofs.grouping.loose_keys.Given as goal

abbrev pub invariant-loop-key : goal.invariant-loop-key
invariant-loop-key l = first_of (loose_keys l.group (drop l.key-index l.keys)) ≡ first_of (loose_keys l.group l.keys)
