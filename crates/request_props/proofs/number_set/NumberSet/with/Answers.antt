use Rattle.request_props.proofs.NumberSets.{one_more}
use Rattle.request_props.proofs.number_set.NumberSet.with.Goals as goal

pub returns-then-is_one : goal.returns-then-is_one
returns-then-is_one c other = one_more c.args.self.mask c.args.number other c.args.is_one c.requires c.if-is_one.true
