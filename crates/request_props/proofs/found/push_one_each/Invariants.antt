use Rattle.std.proofs.Common.{◌≡◌, ◌++◌, drop}
use Rattle.request_props.specs.Found.{one_each}
use Rattle.request_props.proofs.found.push_one_each.Given as goal

-- the lists so far, and those of the numbers that are left
abbrev pub invariant-loop-number : goal.invariant-loop-number
invariant-loop-number l = l.found.items ++ one_each (drop l.number-index l.numbers) ≡ l.fn.found.items ++ one_each
    l.numbers
