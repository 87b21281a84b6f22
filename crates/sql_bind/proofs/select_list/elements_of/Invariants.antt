-- the elements before the place are bound under their names, and the rest come after them
use Rattle.std.proofs.Common.{◌≡◌, ◌≤◌, [], drop, length}
use Rattle.sql_bind.specs.Steps.{each}
use Rattle.sql_bind.specs.SelectList.{chosen_in, output_names}
use Rattle.sql_bind.proofs.select_list.elements_of.Given as goal

abbrev pub invariant-loop-item : goal.invariant-loop-item
invariant-loop-item l = record {
  bound : each (chosen_in l.sources) l.chosen (drop l.item-index l.items) ≡ each (chosen_in l.sources) [] l.items;
  named : l.names ≡ output_names l.chosen;
  few : length l.chosen ≤ l.item-index;
}
