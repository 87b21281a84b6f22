use Rattle.std.proofs.Common.{◌≡◌, ◌++◌, drop, map}
use Rattle.request_props.specs.Found.{elements_of}
use Rattle.request_props.proofs.props.orders_as_keys.Given as goal

-- the orders so far, and those that are left
abbrev pub invariant-loop-order : goal.invariant-loop-order
invariant-loop-order l = map elements_of l.lists.items ++ drop l.order-index l.orders ≡ l.orders
