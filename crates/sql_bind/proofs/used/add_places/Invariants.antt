-- the columns of the places before the place are added
use Rattle.std.proofs.Common.{◌≡◌, ◌++◌, drop}
use Rattle.sql_bind.specs.Used.{places_of}
use Rattle.sql_bind.proofs.used.add_places.Given as goal

abbrev pub invariant-loop-place : goal.invariant-loop-place
invariant-loop-place l = l.wanted.items ++ places_of l.table
    (drop l.place-index l.places) ≡ l.fn.wanted.items ++ places_of l.table l.places
