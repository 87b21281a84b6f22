use Rattle.std.proofs.Common.{◌-◌, sym, ◌∙◌}
use Rattle.query_core.proofs.Bits.{same_tables}
use Rattle.xform_rules.proofs.Beginnings.{rest_bit}
use Rattle.xform_rules.proofs.one_order.others.Goals as goal

-- both have the tables that the part leaves
pub returns : goal.returns
returns c = same_tables c.difference.result (c.args.set - c.args.part) (λ t. c.difference.ensures t
    ∙ sym (rest_bit c.args.set c.args.part c.requires t))
