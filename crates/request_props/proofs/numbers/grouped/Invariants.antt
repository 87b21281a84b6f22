use Rattle.std.proofs.Common.{◌≡◌, ◌++◌, drop, map}
use Rattle.request_props.specs.Numbered.{are_grouped}
use Rattle.request_props.proofs.numbers.grouped.Given as goal

-- what was found so far, and what is found of the lists that are left
abbrev pub invariant-loop-list : goal.invariant-loop-list
invariant-loop-list l = l.found.items ++ map (are_grouped l.query) (drop l.list-index l.lists) ≡ map
    (are_grouped l.query) l.lists
