use Rattle.std.proofs.Common.{◌≡◌, ◌++◌, drop, map}
use Rattle.request_props.specs.Lying.{items_of}
use Rattle.request_props.proofs.tables.lying.items_of_orders.Given as goal

-- the items of the orders so far, and of those that are left
abbrev pub invariant-loop-order : goal.invariant-loop-order
invariant-loop-order l = l.lists.items ++ map items_of (drop l.order-index l.orders) ≡ map items_of l.orders
