-- The lists before this one that fit the group.
use Rattle.request_props.specs.Fitting.{HashFits}
use Rattle.request_props.specs.JoinSets.{AreThoseBelow}
use Rattle.request_props.proofs.props.Props.lists_fitting.Given as goal

abbrev pub invariant-loop-list : goal.invariant-loop-list
invariant-loop-list l = AreThoseBelow (HashFits l.query l.fn.group) l.list l.lists
