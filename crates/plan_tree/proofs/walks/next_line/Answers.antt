-- The first of all modes is the first one with a line.
use Rattle.plan_space.specs.Modes.{mode_at}
use Rattle.plan_tree.proofs.WayModes.{next_lined}
use Rattle.plan_tree.proofs.walks.next_line.Goals as goal

pub next_of-requires-clause-lined : goal.next_of-requires-clause-lined
next_of-requires-clause-lined c = λ mode has. (c.modes_of.ensures (mode_at mode)).0 has

pub returns : goal.returns
returns c = next_lined c.args.query.now c.args.expr c.modes_of.result c.modes_of.ensures c.args.from c.next_of.result
    c.next_of.ensures
