use Rattle.std.proofs.Common.{◌≡◌, ◌++◌, drop}
use Rattle.request_props.specs.Found.{ascending}
use Rattle.request_props.proofs.found.ascending.Given as goal

-- the elements so far, and those of the columns that are left
abbrev pub invariant-loop-column : goal.invariant-loop-column
invariant-loop-column l = l.elements.items ++ ascending (drop l.column-index l.columns) ≡ ascending l.columns
