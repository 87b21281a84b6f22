use Rattle.plan_space.proofs.Root.{root_collected}
use Rattle.plan_space.proofs.laws.root_request_is_collected.Goals as goal

-- the orders strictly rise and none is empty, so an order has one number
pub returns : goal.returns
returns c = root_collected c.listing_is_one.ensures
