use Rattle.std.proofs.Common.{get_or}
use Rattle.std.proofs.lemmas.List.{get_or_default}
use Rattle.sql_bind.specs.Columns.{column}
use Rattle.sql_bind.proofs.NameLemmas.{next_added}
use Rattle.sql_bind.proofs.used.add_places.Goals as goal

-- the column at the place goes last
pub loop-place-preserved : goal.loop-place-preserved
loop-place-preserved c =
    let loop = c.loop-place in
    let places = c.args.places.now in
    let place = get_or places loop.place-index 0 in
    next_added (column c.args.table) places loop.place-index place c.loop-place-test.true
    (get_or_default places loop.place-index 0 place c.loop-place-test.true) loop.wanted.items c.push.new.self.items
    loop.invariant c.in_ok-push.ensures.items
