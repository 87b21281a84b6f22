use Rattle.request_props.proofs.NumberSets.{none_in}
use Rattle.request_props.proofs.number_set.NumberSet.none.Goals as goal

pub returns : goal.returns
returns c = none_in
