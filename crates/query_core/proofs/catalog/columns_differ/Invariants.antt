-- what comes before the rest has names of its own
use Rattle.std.proofs.Common.{◌≡◌, length, map}
use Rattle.query_core.specs.Differ.{texts_differ}
use Rattle.query_core.proofs.catalog.columns_differ.Given as goal

abbrev pub invariant-loop-column : goal.invariant-loop-column
invariant-loop-column l = texts_differ (map (λ x. x.name) l.rest) ≡ texts_differ (map (λ x. x.name) l.columns)

abbrev pub decreases-loop-column : goal.decreases-loop-column
decreases-loop-column l = length l.rest
