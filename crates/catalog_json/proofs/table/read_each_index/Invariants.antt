-- the indexes before the place were read, and the rest is read after them
use Rattle.std.proofs.Common.{◌≡◌, [], map, drop}
use Rattle.serde_json.specs.View.{view}
use Rattle.catalog_json.specs.Columns.{names_of}
use Rattle.catalog_json.specs.Walk.{each, index_at}
use Rattle.catalog_json.proofs.table.read_each_index.Given as goal

abbrev pub invariant-loop-value : goal.invariant-loop-value
invariant-loop-value l = each (index_at l.t (names_of l.columns)) l.indexes
    (drop l.value-index (map view l.values)) ≡ each (index_at l.t (names_of l.columns)) [] (map view l.values)
