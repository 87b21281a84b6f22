-- the columns of the predicates before the place are added
use Rattle.std.proofs.Common.{◌≡◌, ◌++◌, drop}
use Rattle.sql_bind.specs.Used.{named_by_compared}
use Rattle.sql_bind.proofs.used.add_compared.Given as goal

abbrev pub invariant-loop-comparison : goal.invariant-loop-comparison
invariant-loop-comparison l = l.wanted.items ++ named_by_compared
    (drop l.comparison-index l.compared) ≡ l.fn.wanted.items ++ named_by_compared l.compared
