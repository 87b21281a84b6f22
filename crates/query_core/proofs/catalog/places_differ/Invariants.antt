-- what comes before the rest comes once
use Rattle.std.proofs.Common.{◌≡◌, ◌==◌, length}
use Rattle.query_core.specs.Differ.{all_differ}
use Rattle.query_core.proofs.catalog.places_differ.Given as goal

abbrev pub invariant-loop-place : goal.invariant-loop-place
invariant-loop-place l = all_differ (λ p q. q == p) l.rest ≡ all_differ (λ p q. q == p) l.places

abbrev pub decreases-loop-place : goal.decreases-loop-place
decreases-loop-place l = length l.rest
