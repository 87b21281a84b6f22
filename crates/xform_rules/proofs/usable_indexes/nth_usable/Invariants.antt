use Rattle.std.proofs.Common.{◌≡◌, ◌≤◌, take}
use Rattle.std.specs.List.{count_by}
use Rattle.xform_rules.specs.UsableIndexes.{is_usable}
use Rattle.xform_rules.proofs.usable_indexes.nth_usable.Given as goal

-- the usable indexes so far are counted, and the n-th is not among them
abbrev pub invariant-loop-number : goal.invariant-loop-number
invariant-loop-number l = record {
  counted : l.before ≡ count_by (is_usable l.query l.table) (take l.number l.indexes);
  few : l.before ≤ l.number;
  none : l.before ≤ l.n;
}
