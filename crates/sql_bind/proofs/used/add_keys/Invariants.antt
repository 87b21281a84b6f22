-- the columns of the keys before the place are added
use Rattle.std.proofs.Common.{◌≡◌, ◌++◌, drop}
use Rattle.sql_bind.specs.Used.{named_by_keys}
use Rattle.sql_bind.proofs.used.add_keys.Given as goal

abbrev pub invariant-loop-key : goal.invariant-loop-key
invariant-loop-key l = l.wanted.items ++ named_by_keys (drop l.key-index l.keys) ≡ l.fn.wanted.items ++ named_by_keys
    l.keys
