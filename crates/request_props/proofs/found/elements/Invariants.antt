use Rattle.std.proofs.Common.{◌≡◌, ◌++◌, drop}
use Rattle.request_props.specs.Found.{elements_of}
use Rattle.request_props.proofs.found.elements.Given as goal

-- the elements so far, and those of the keys that are left
abbrev pub invariant-loop-key : goal.invariant-loop-key
invariant-loop-key l = l.elements.items ++ elements_of (drop l.key-index l.keys) ≡ elements_of l.keys
