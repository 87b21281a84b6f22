use Rattle.plan_search.specs.Places.{first_place}
use Rattle.plan_search.specs.KeptPlans.{AreAnswered}
use Rattle.plan_search.proofs.requests.answer_all.Given as goal

-- the groups with lesser keys are answered
abbrev pub invariant-loop-key : goal.invariant-loop-key
invariant-loop-key l = AreAnswered l.query l.answers (first_place l.key)
