use Rattle.std.proofs.Common.{ℕ, ◌<◌}
use Rattle.std.specs.Prelude.{IsSome}
use Rattle.query_core.specs.Crossing.{crossing_of}
use Rattle.xform_rules.proofs.implemented.has_crossing.Given as goal

-- no predicate so far equates them
abbrev pub invariant-loop-pred : goal.invariant-loop-pred
invariant-loop-pred l = (k : ℕ) → k < l.pred → IsSome (crossing_of l.query l.left l.right k) → ⊥
