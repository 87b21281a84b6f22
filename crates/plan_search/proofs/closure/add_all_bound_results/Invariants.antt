use Rattle.plan_search.specs.Steps.{GrowsTo, HasBoundResults}
use Rattle.plan_search.proofs.Growing.{Before, HoldsAt}
use Rattle.plan_search.proofs.closure.add_all_bound_results.Given as goal

-- the results at the words so far are found
abbrev pub invariant-loop-word : goal.invariant-loop-word
invariant-loop-word l = GrowsTo l.query (Before (HoldsAt l.query (HasBoundResults l.query l.new) l.words) l.word-index)
    l.initial.found l.found
