-- the columns before the place are there
use Rattle.std.proofs.Common.{◌≡◌, ◌++◌, drop, map}
use Rattle.sql_bind.proofs.numbers.numbered.Given as goal

abbrev pub invariant-loop-used : goal.invariant-loop-used
invariant-loop-used l = l.numbers.keys ++ map (λ c. c.which) (drop l.used-index l.columns) ≡ map (λ c. c.which)
    l.columns
