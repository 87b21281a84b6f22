use Rattle.request_props.specs.Numbered.{are_grouped}
use Rattle.request_props.proofs.Mapped.{map_done, map_push}
use Rattle.request_props.proofs.numbers.grouped.Goals as goal

-- what is found of one more list is there
pub loop-list-preserved : goal.loop-list-preserved
loop-list-preserved c =
    map_push (are_grouped c.args.query.now) c.args.lists.now c.loop-list.found.items c.push.new.self.items
    c.loop-list.list-index c.list-item.result _ c.are_grouped.result c.loop-list-test.true c.list-item.is
    (rw c.as_slice.ensures at c.are_grouped.ensures) c.in_ok-push.ensures.items c.loop-list.invariant

-- no list is left
pub returns : goal.returns
returns c =
    map_done (are_grouped c.args.query.now) c.args.lists.now c.loop-list.found.items c.loop-list.list-index
    c.loop-list-test.false c.loop-list.invariant
