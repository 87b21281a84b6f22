-- no column before the place is refused
use Rattle.std.proofs.Common.{◌≡◌, drop}
use Rattle.sql_bind.specs.Grouping.{first_of, loose_chosen}
use Rattle.sql_bind.proofs.grouping.loose_chosen.Given as goal

abbrev pub invariant-loop-element : goal.invariant-loop-element
invariant-loop-element l = first_of (loose_chosen l.group (drop l.element-index l.chosen)) ≡ first_of
    (loose_chosen l.group l.chosen)
