use Rattle.plan_space.proofs.Root.{root_fits}
use Rattle.plan_space.proofs.laws.root_request_fits.Goals as goal

-- the order of ORDER BY has a number, and its items are those of the root
pub returns : goal.returns
returns c = root_fits c.listing_is_one.ensures
