-- the columns of the elements before the place are added
use Rattle.std.proofs.Common.{◌≡◌, ◌++◌, drop}
use Rattle.sql_bind.specs.Used.{named_by_chosen}
use Rattle.sql_bind.proofs.used.add_chosen.Given as goal

abbrev pub invariant-loop-element : goal.invariant-loop-element
invariant-loop-element l = l.wanted.items ++ named_by_chosen
    (drop l.element-index l.chosen) ≡ l.fn.wanted.items ++ named_by_chosen l.chosen
