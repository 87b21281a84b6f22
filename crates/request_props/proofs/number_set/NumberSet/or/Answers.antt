use Rattle.request_props.proofs.NumberSets.{in_either}
use Rattle.request_props.proofs.number_set.NumberSet.or.Goals as goal

pub returns : goal.returns
returns c = in_either c.args.self.mask c.args.other.mask
