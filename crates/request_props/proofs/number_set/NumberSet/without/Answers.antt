use Rattle.request_props.proofs.NumberSets.{in_first_alone}
use Rattle.request_props.proofs.number_set.NumberSet.without.Goals as goal

pub returns : goal.returns
returns c = in_first_alone c.args.self.mask c.args.other.mask
