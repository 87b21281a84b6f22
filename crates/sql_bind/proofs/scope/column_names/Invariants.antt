-- the names before the place are there
use Rattle.std.proofs.Common.{◌≡◌, ◌++◌, drop, map}
use Rattle.sql_bind.proofs.scope.column_names.Given as goal

abbrev pub invariant-loop-column : goal.invariant-loop-column
invariant-loop-column l = l.names ++ map (λ c. c.name) (drop l.column-index l.columns) ≡ map (λ c. c.name) l.columns
