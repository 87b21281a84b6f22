use Rattle.sql_bind.specs.Used.{in_what}
use Rattle.sql_bind.proofs.NameLemmas.{next_several}
use Rattle.sql_bind.proofs.used.add_chosen.Goals as goal

-- the columns of the element go last
pub loop-element-preserved : goal.loop-element-preserved
loop-element-preserved c =
    let loop = c.loop-element in
    next_several (λ e. in_what e.what) c.args.chosen.now loop.element-index c.element-item.result c.loop-element-test.true
    c.element-item.is loop.wanted.items c.add_what.new.wanted.items loop.invariant c.in_ok-add_what.ensures
