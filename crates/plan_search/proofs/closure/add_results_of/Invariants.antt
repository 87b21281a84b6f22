use Rattle.plan_search.specs.Steps.{GrowsTo, HasResultAt}
use Rattle.plan_search.proofs.Growing.{Before}
use Rattle.plan_search.proofs.closure.add_results_of.Given as goal

-- the results of lesser numbers are found
abbrev pub invariant-loop-n : goal.invariant-loop-n
invariant-loop-n l = GrowsTo l.query (Before (HasResultAt l.query l.e l.bound l.rule) l.n) l.initial.found l.found
