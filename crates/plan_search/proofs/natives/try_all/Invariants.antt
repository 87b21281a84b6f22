use Rattle.plan_search.proofs.Tried.{AreTried}
use Rattle.plan_search.proofs.natives.try_all.Given as goal

-- the best beats the members so far
abbrev pub invariant-loop-p : goal.invariant-loop-p
invariant-loop-p l = AreTried l.search.query.now l.wanted l.search.answers.now l.fn.group l.list l.p-index
    l.initial.best l.best
