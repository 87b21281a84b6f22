use Rattle.plan_search.specs.Steps.{GrowsTo, HasSteps}
use Rattle.plan_search.proofs.Growing.{Before, HoldsAt}
use Rattle.plan_search.proofs.closure.add_all_steps.Given as goal

-- the steps from the words so far are found
abbrev pub invariant-loop-word : goal.invariant-loop-word
invariant-loop-word l = GrowsTo l.query (Before (HoldsAt l.query (HasSteps l.query l.words) l.new) l.word-index)
    l.initial.found l.found
