-- The orders before this one that are empty.
use Rattle.std.proofs.Common.{[]}
use Rattle.request_props.specs.JoinSets.{AreThoseBelow}
use Rattle.request_props.specs.Numbered.{order_of}
use Rattle.request_props.specs.Satisfied.{BeginsWith}
use Rattle.request_props.proofs.props.Props.empty_orders.Given as goal

abbrev pub invariant-loop-order : goal.invariant-loop-order
invariant-loop-order l = AreThoseBelow (λ order. BeginsWith [] (order_of l.query order)) l.order l.orders
