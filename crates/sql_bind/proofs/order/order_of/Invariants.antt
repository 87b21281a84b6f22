-- the keys before the place are kept, nothing twice
use Rattle.std.proofs.Common.{◌≡◌, ◌++◌, drop, map}
use Rattle.sql_bind.specs.Query.{distinct_by, key_item, key_of, order_of}
use Rattle.sql_bind.proofs.Distinct.{others}
use Rattle.sql_bind.proofs.order.order_of.Given as goal

abbrev pub invariant-loop-key : goal.invariant-loop-key
invariant-loop-key l = l.kept ++ others key_item l.kept
    (distinct_by key_item (map (key_of l.used) (drop l.key-index l.keys))) ≡ order_of l.used l.keys
