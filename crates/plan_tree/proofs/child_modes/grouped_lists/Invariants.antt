-- The lists before this one that are grouped.
use Rattle.std.proofs.Common.{◌↔◌, ℕ, ◌<◌, IsTrue}
use Rattle.request_props.specs.NumberSets.{IsInSet}
use Rattle.request_props.specs.Numbered.{is_grouped_list}
use Rattle.plan_tree.proofs.child_modes.grouped_lists.Given as goal

abbrev pub invariant-loop-list : goal.invariant-loop-list
invariant-loop-list l =
    (list : ℕ) → IsInSet l.lists list ↔ ((list < l.list) × IsTrue (is_grouped_list l.query list))
