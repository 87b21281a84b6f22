use Rattle.request_props.proofs.NumberSets.{in_both}
use Rattle.request_props.proofs.number_set.NumberSet.and.Goals as goal

pub returns : goal.returns
returns c = in_both c.args.self.mask c.args.other.mask
