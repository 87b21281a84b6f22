-- One more number's sets are found.
use Rattle.request_props.specs.Counted.{IsAmong, IsColumnBy}
use Rattle.request_props.proofs.ListsOfEnds.{ends_push}
use Rattle.request_props.proofs.PredicateEnds.{ends_same}
use Rattle.request_props.proofs.tables.ends.ends_by.Goals as goal

pub loop-number-preserved : goal.loop-number-preserved
loop-number-preserved c =
    let q = c.args.query.now in
    let number = c.loop-number.number in
    let columns = c.get-columns in
    ends_push q (IsColumnBy q c.args.by) c.loop-number.found.items c.push.new.self.items number c.ends_of.result
    c.in_ok-push.ensures.items c.loop-number.invariant
    (ends_same q (IsAmong q columns.result) (IsColumnBy q c.args.by number) c.ends_of.result
    (columns.ensures q c.requires.orders) c.ends_of.ensures)
