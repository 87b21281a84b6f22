-- the places before the index were read, and the rest is read after them
use Rattle.std.proofs.Common.{◌≡◌, [], map, drop}
use Rattle.serde_json.specs.View.{view}
use Rattle.catalog_json.specs.Columns.{names_of}
use Rattle.catalog_json.specs.Walk.{each, listed_at}
use Rattle.catalog_json.proofs.listed.read_each_listed.Given as goal

abbrev pub invariant-loop-value : goal.invariant-loop-value
invariant-loop-value l = each (listed_at l.list (names_of l.columns)) l.places
    (drop l.value-index (map view l.values)) ≡ each (listed_at l.list (names_of l.columns)) [] (map view l.values)
