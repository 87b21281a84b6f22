use Rattle.request_props.proofs.Inserted.{listing_only}
use Rattle.request_props.proofs.numbering.listing_is_one.Goals as goal

-- the lists put at their places are a listing, and lists in strict order with the same elements are one
pub returns : goal.returns
returns c = listing_only
