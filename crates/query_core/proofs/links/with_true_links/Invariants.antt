use Rattle.query_core.specs.Links.{AddsTrueLinks, StartsComponent}
use Rattle.query_core.proofs.TrueLinks.{WantedBelow}
use Rattle.query_core.proofs.links.with_true_links.Given as goal

-- behind the links made stand the TRUE links to lesser tables
abbrev pub invariant-loop-table : goal.invariant-loop-table
invariant-loop-table l = AddsTrueLinks (WantedBelow (StartsComponent l.count l.made) l.table) l.made l.links.items
