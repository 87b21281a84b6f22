use Rattle.std.proofs.Common.{ℕ, ◌≤◌}
use Rattle.xform_rules.specs.ExpandNAry.{IsCut}
use Rattle.xform_rules.proofs.expand_n_ary.last_cut.Given as goal

-- from this table on there is none
abbrev pub invariant-loop-table : goal.invariant-loop-table
invariant-loop-table l = (t : ℕ) → l.table ≤ t → IsCut l.query l.set t → ⊥
