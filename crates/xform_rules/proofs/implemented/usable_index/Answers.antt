use Rattle.xform_rules.proofs.Usable.{nth_of_group}
use Rattle.xform_rules.proofs.implemented.usable_index.Goals as goal

-- the group's table is the one
pub returns-in-Filter : goal.returns-in-Filter
returns-in-Filter c =
    nth_of_group c.args.query.now c.args.group c.in-Filter.table c.args.n c.usable_of_table.result c.in-Filter.is
    c.usable_of_table.ensures
