use Rattle.xform_rules.specs.Closure.{IsMember}
use Rattle.plan_space.proofs.Candidates.{candidate_line_fits}
use Rattle.plan_space.proofs.Splits.{satisfaction_splits, satisfaction_joins}
use Rattle.plan_space.proofs.Roots.{splits_at_root}
use Rattle.plan_space.proofs.laws.satisfaction_splits.Goals as goal

-- a line goes with its left child in distribution and order, and what it asks fits the children
pub returns-clause-splits : goal.returns-clause-splits
returns-clause-splits c q e mode kids wanted candidate =
    satisfaction_splits q e mode kids wanted
    (λ line is. (candidate_line_fits c.listing_is_one.ensures q e mode line candidate is).asks)

-- the same line by line, the other way round
pub returns-clause-joins : goal.returns-clause-joins
returns-clause-joins c = satisfaction_joins

-- what the kids of a valid plan give lies in their groups, so both hold of the root over them
pub returns-clause-at_roots : goal.returns-clause-at_roots
returns-clause-at_roots c q =
    splits_at_root (IsMember q) q (c.members_are_candidates.ensures q) (c.what_is_given_fits.ensures q)
    (returns-clause-splits c q) (satisfaction_joins q)
