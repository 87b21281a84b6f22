use Rattle.plan_search.specs.Steps.{GrowsTo}
use Rattle.plan_search.proofs.Growing.{Before}
use Rattle.plan_search.proofs.FoundSteps.{HasResultsAt}
use Rattle.plan_search.proofs.closure.add_results.Given as goal

-- the results of the rules before this one are found
abbrev pub invariant-loop-rule : goal.invariant-loop-rule
invariant-loop-rule l = GrowsTo l.query (Before (HasResultsAt l.query l.e l.bound l.rule-items) l.rule-index)
    l.initial.found l.found
