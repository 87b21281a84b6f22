-- The orders before this one that fit the group.
use Rattle.request_props.specs.Fitting.{OrderFits}
use Rattle.request_props.specs.JoinSets.{AreThoseBelow}
use Rattle.request_props.proofs.props.Props.orders_fitting.Given as goal

abbrev pub invariant-loop-order : goal.invariant-loop-order
invariant-loop-order l = AreThoseBelow (OrderFits l.query l.fn.group) l.order l.orders
