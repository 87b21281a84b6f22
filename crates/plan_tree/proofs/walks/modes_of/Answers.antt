use Rattle.std.proofs.Common.{subst}
use Rattle.plan_space.specs.declared.ways.Way.{Way}
use Rattle.plan_tree.specs.Walks.{AreModesOf}
use Rattle.plan_tree.proofs.walks.modes_of.Goals as goal

pub returns : goal.returns
returns c = subst (λ (way : Way). AreModesOf c.args.query.now c.args.expr.group way c.modes_by.result) c.way_of.ensures
    c.modes_by.ensures
