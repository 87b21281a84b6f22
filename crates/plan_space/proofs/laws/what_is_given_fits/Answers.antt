use Rattle.xform_rules.specs.Closure.{IsMember}
use Rattle.plan_space.proofs.Given.{plan_gives_fits}
use Rattle.plan_space.proofs.laws.what_is_given_fits.Goals as goal

-- members are candidates, and of a candidate's lines each gives what lies in its group
pub returns : goal.returns
returns c q plan valid = plan_gives_fits q (IsMember q) (c.members_are_candidates.ensures q) c.listing_is_one.ensures
    plan valid
