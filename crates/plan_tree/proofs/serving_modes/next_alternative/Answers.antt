-- Each of the modes to try has a line, and the first of them is the first that serves.
use Rattle.plan_tree.proofs.ModesTried.{next_serving}
use Rattle.plan_tree.proofs.serving_modes.next_alternative.Goals as goal

pub next_of-requires-clause-lined : goal.next_of-requires-clause-lined
next_of-requires-clause-lined c = λ mode has. let (line, is) = c.requires.modes.only c.requires.candidate mode has in
    (line, is.is_line)

pub returns : goal.returns
returns c = next_serving c.args.query.now c.args.expr c.args.wanted c.args.modes c.requires.modes c.requires.candidate
    c.args.from c.next_of.result c.next_of.ensures
