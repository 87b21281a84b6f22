use Rattle.sql_bind.specs.Used.{in_compared}
use Rattle.sql_bind.proofs.NameLemmas.{next_several}
use Rattle.sql_bind.proofs.used.add_compared.Goals as goal

-- the columns of the comparison go last
pub loop-comparison-preserved : goal.loop-comparison-preserved
loop-comparison-preserved c =
    let loop = c.loop-comparison in
    next_several in_compared c.args.compared.now loop.comparison-index c.comparison-item.result c.loop-comparison-test.true
    c.comparison-item.is loop.wanted.items c.add_comparison.new.wanted.items loop.invariant c.in_ok-add_comparison.ensures
