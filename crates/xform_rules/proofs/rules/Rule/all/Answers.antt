use Rattle.xform_rules.proofs.EveryRule.{each_listed}
use Rattle.xform_rules.proofs.rules.Rule.all.Goals as goal

-- each rule has its place
pub returns-clause-every : goal.returns-clause-every
returns-clause-every c = each_listed
