use Rattle.sql_bind.specs.Used.{places_of}
use Rattle.sql_bind.proofs.NameLemmas.{next_several}
use Rattle.sql_bind.proofs.used.add_indexes.Goals as goal

-- the columns of the index go last
pub loop-index-preserved : goal.loop-index-preserved
loop-index-preserved c =
    let loop = c.loop-index in
    next_several (places_of c.args.table) c.args.indexes.now loop.index-index c.index-item.result c.loop-index-test.true
    c.index-item.is loop.wanted.items c.add_places.new.wanted.items loop.invariant (rw (← c.as_slice.ensures) c.in_ok-add_places.ensures)
