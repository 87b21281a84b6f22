use Rattle.xform_rules.proofs.EveryRule.{listed, rule_some, rule_few, number_one, every_rule}
use Rattle.xform_rules.proofs.Names.{name_one}
use Rattle.xform_rules.proofs.laws.rules_are_known.Goals as goal

pub returns : goal.returns
returns c = record {
  listed = listed;
  some = rule_some;
  few = rule_few;
  number_one = number_one;
  name_one = name_one;
  every = every_rule;
}
