use Rattle.std.proofs.Common.{Some}
use Rattle.plan_search.specs.Steps.{GrowsTo, HasResults}
use Rattle.plan_search.proofs.Growing.{Before, HoldsAt}
use Rattle.plan_search.proofs.closure.add_results_with_each.Given as goal

-- the results with the members so far are found
abbrev pub invariant-loop-word : goal.invariant-loop-word
invariant-loop-word l =
    GrowsTo l.query (Before (HoldsAt l.query (λ bound. HasResults l.query l.e (Some bound)) l.members) l.word-index)
    l.initial.found l.found
