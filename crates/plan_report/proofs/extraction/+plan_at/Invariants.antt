use Rattle.goal_space.specs.Ranks.{rank_of}
use Rattle.plan_report.specs.PlansAsked.{goal_of}
use Rattle.plan_report.proofs.extraction.+plan_at.Given as goal

-- what a node is linked to has a lesser rank
abbrev pub decreases-plan_at : goal.decreases-plan_at
decreases-plan_at g l = rank_of (goal_of l.at)
