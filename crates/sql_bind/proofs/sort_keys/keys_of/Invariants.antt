-- the keys before the place are bound, and the rest come after them
use Rattle.std.proofs.Common.{◌≡◌, [], drop}
use Rattle.sql_bind.specs.Steps.{each}
use Rattle.sql_bind.specs.SortKeys.{key_in}
use Rattle.sql_bind.proofs.sort_keys.keys_of.Given as goal

abbrev pub invariant-loop-key : goal.invariant-loop-key
invariant-loop-key l = each (λ before key. key_in l.sources l.chosen key) l.keys (drop l.key-index l.order_by) ≡ each
    (λ before key. key_in l.sources l.chosen key) [] l.order_by
