-- The orders before this one that some predicate gives.
use Rattle.request_props.specs.JoinSets.{AreThoseBelow, Merges}
use Rattle.request_props.proofs.props.Props.orders_merged.Given as goal

abbrev pub invariant-loop-order : goal.invariant-loop-order
invariant-loop-order l = AreThoseBelow (Merges l.query l.fn.left l.fn.right) l.order l.orders
