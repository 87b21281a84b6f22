-- what comes before the rest has names of its own
use Rattle.std.proofs.Common.{◌≡◌, length, map}
use Rattle.query_core.specs.Differ.{texts_differ}
use Rattle.query_core.proofs.catalog.tables_differ.Given as goal

abbrev pub invariant-loop-table : goal.invariant-loop-table
invariant-loop-table l = texts_differ (map (λ x. x.name) l.rest) ≡ texts_differ (map (λ x. x.name) l.tables)

abbrev pub decreases-loop-table : goal.decreases-loop-table
decreases-loop-table l = length l.rest
