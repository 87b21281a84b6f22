use Rattle.query_generator.specs.Draws.{draw}
use Rattle.query_generator.specs.Catalog.{table_of}
use Rattle.query_generator.proofs.Ranges.{next_mapped}
use Rattle.query_generator.proofs.catalog.tables_of.Goals as goal

-- no table is made, and nothing is drawn
pub loop-i-init : goal.loop-i-init
unfolding draw
loop-i-init c = record { made = c.new-list.ensures; drawn = c.of-draws.ensures }

-- the table that was made goes last
pub loop-i-preserved : goal.loop-i-preserved
loop-i-preserved c = record {
  made = next_mapped (table_of c.args.number) c.loop-i.i c.loop-i.list c.push.new.self c.in_ok-table.table
      c.loop-i.invariant.made c.in_ok-table.ensures.table c.in_ok-push.ensures.ok;
  drawn = c.in_ok-table.ensures.drawn;
}
