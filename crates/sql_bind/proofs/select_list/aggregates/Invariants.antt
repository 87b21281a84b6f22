-- those before the place are counted
use Rattle.std.proofs.Common.{◌≡◌, ◌≤◌, take}
use Rattle.sql_bind.specs.SelectList.{aggregates}
use Rattle.sql_bind.proofs.select_list.aggregates.Given as goal

abbrev pub invariant-loop-item : goal.invariant-loop-item
invariant-loop-item l = record {
  counted : l.count ≡ aggregates (take l.item-index l.chosen);
  few : l.count ≤ l.item-index;
}
