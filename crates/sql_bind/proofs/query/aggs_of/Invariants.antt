-- the aggregates before the place are made
use Rattle.std.proofs.Common.{◌≡◌, ◌++◌, drop}
use Rattle.sql_bind.specs.Query.{aggs_of}
use Rattle.sql_bind.proofs.query.aggs_of.Given as goal

abbrev pub invariant-loop-element : goal.invariant-loop-element
invariant-loop-element l = l.aggs ++ aggs_of l.used (drop l.element-index l.chosen) ≡ aggs_of l.used l.chosen
