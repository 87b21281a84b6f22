use Rattle.std.proofs.Common.{◌≡◌, ◌++◌, drop}
use Rattle.query_core.specs.Links.{predicate_links}
use Rattle.query_core.proofs.links.predicate_links.Given as goal

-- the links so far, and those of the predicates that are left
abbrev pub invariant-loop-pred : goal.invariant-loop-pred
invariant-loop-pred l = l.made.items ++ predicate_links l.items (drop l.pred-index l.preds) ≡ predicate_links l.items
    l.preds
