use Rattle.request_props.proofs.Covering.{over_empty, over_front}
use Rattle.request_props.proofs.tables.lying.+tables_of.Goals as goal

pub returns-in-empty : goal.returns-in-empty
returns-in-empty t c = over_empty c.args.query.now c.args.list.now c.in-empty.len_below

pub returns-in-len1-up : goal.returns-in-len1-up
returns-in-len1-up t c =
    over_front c.args.query.now c.args.list.now c.tables_of.result c.with_item.result c.in-len1-up.len_at_least
    c.tables_of.ensures c.with_item.ensures
