-- the elements before the place are made
use Rattle.std.proofs.Common.{◌≡◌, ◌++◌, drop}
use Rattle.sql_bind.specs.Query.{outputs_of}
use Rattle.sql_bind.proofs.query.outputs_of.Given as goal

abbrev pub invariant-loop-element : goal.invariant-loop-element
invariant-loop-element l = l.outputs ++ outputs_of l.used (drop l.element-index l.chosen) ≡ outputs_of l.used l.chosen
