use Rattle.std.proofs.Common.{ℕ, ◌<◌}
use Rattle.std.specs.Prelude.{None}
use Rattle.xform_rules.specs.Forms.{logical_in, physical_in}
use Rattle.xform_rules.specs.Results.{HasResult}
use Rattle.xform_rules.proofs.membership.gives.Given as goal

-- no result so far is the other
abbrev pub invariant-loop-n : goal.invariant-loop-n
invariant-loop-n l = (k : ℕ) → k < l.n → HasResult l.query l.rule (logical_in l.group l.from) None k
    (physical_in l.group l.to) → ⊥
