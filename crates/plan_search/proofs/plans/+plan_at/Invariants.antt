use Rattle.plan_search.proofs.plans.+plan_at.Given as goal

-- what stands below stands at lesser places
abbrev pub decreases-plan_at : goal.decreases-plan_at
decreases-plan_at l = l.place
