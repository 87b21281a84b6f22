use Rattle.std.proofs.Common.{◌≡◌, ◌≤◌, ◌-◌, slice_get}
use Rattle.plan_tree.proofs.Decided.{has}
use Rattle.plan_tree.proofs.Modes.{passing}
use Rattle.plan_tree.proofs.alternatives.alternative_of.Given as goal

-- so many modes are behind, and the others stand after them
abbrev pub invariant-modes : goal.invariant-modes
invariant-modes l = record {
  few : l.seen ≤ l.n;
  within : l.from ≤ 192;
  others : slice_get (passing (has l.query l.expr l.request) l.from (192 - l.from)) (l.n - l.seen) ≡ slice_get
      (passing (has l.query l.expr l.request) 0 192) l.n;
}

abbrev pub decreases-modes : goal.decreases-modes
decreases-modes l = 192 - l.from
