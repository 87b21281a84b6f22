use Rattle.std.proofs.Common.{subst, IsTrue, ◌↔◌}
use Rattle.query_core.specs.Sets.{Has}
use Rattle.xform_rules.specs.Rules.{rule_number}
use Rattle.xform_rules.proofs.Sets.{not_set}
use Rattle.job_turns.proofs.made_joins.is_on.Goals as goal

-- the rule's bit is 0 or 1
pub returns : goal.returns
returns c =
    not_set c.args.query.now.options.off (rule_number c.args.rule) c.has.result
    (subst (λ n. IsTrue c.has.result ↔ Has c.args.query.now.options.off n) c.number.ensures.value c.has.ensures)
