use Rattle.std.proofs.Common.{◌≡◌, ◌++◌, drop}
use Rattle.request_props.specs.Found.{elements_of}
use Rattle.request_props.proofs.props.order_as_keys.Given as goal

-- the elements of the keys so far, and those that are left
abbrev pub invariant-loop-element : goal.invariant-loop-element
invariant-loop-element l = elements_of l.keys.items ++ drop l.element-index l.elements ≡ l.elements
