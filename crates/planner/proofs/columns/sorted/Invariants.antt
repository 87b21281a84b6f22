use Rattle.std.proofs.Common.{◌≡◌, map, take}
use Rattle.request_props.specs.Found.{elements_of}
use Rattle.planner.specs.Columns.{column_by}
use Rattle.planner.proofs.columns.sorted.Given as goal

-- the columns of the keys before this one are named
abbrev pub invariant-loop-key : goal.invariant-loop-key
invariant-loop-key l = l.columns ≡ map (column_by l.query) (elements_of (take l.key-index l.keys))
