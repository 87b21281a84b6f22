use Rattle.query_generator.specs.Select.{from_of}
use Rattle.query_generator.proofs.Ranges.{next_mapped}
use Rattle.query_generator.proofs.select.tables_of.Goals as goal

-- the next table goes last
pub loop-i-preserved : goal.loop-i-preserved
loop-i-preserved c = next_mapped from_of c.loop-i.i c.loop-i.from c.push.new.self c.in_ok-item.item c.loop-i.invariant
    c.in_ok-item.ensures c.in_ok-push.ensures.ok
