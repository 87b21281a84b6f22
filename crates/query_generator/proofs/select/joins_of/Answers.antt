use Rattle.query_generator.specs.Select.{joins_of}
use Rattle.query_generator.proofs.Ranges.{next_listed}
use Rattle.query_generator.proofs.select.joins_of.Goals as goal

-- the joins of the next table go last
pub loop-i-preserved : goal.loop-i-preserved
loop-i-preserved c = next_listed (joins_of c.args.shape c.args.tables) c.loop-i.i c.loop-i.joins c.add_joins.new.joins
    c.loop-i.invariant c.in_ok-add_joins.ensures
