use Rattle.std.proofs.Common.{◌≡◌, ℕ, ◌<◌, [], None, length, slice_index_or}
use Rattle.request_props.specs.Lying.{IsOver}
use Rattle.request_props.proofs.tables.lying.tables_of_lists.Given as goal

-- the tables of the lists before this place are found
abbrev pub invariant-loop-list : goal.invariant-loop-list
invariant-loop-list l = record {
  count : length l.found.items ≡ l.list-index;
  each : (k : ℕ) → k < l.list-index → IsOver l.query (slice_index_or l.lists k [])
      (slice_index_or l.found.items k None);
}
