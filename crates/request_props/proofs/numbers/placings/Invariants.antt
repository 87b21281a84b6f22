use Rattle.std.proofs.Common.{◌≡◌, ◌++◌, drop, map}
use Rattle.request_props.specs.Numbered.{dist_by}
use Rattle.request_props.proofs.numbers.placings.Given as goal

-- what was found so far, and what is found of the tables that are left
abbrev pub invariant-loop-table : goal.invariant-loop-table
invariant-loop-table l =
    l.found.items ++ map (λ table. dist_by l.query table.hashed) (drop l.table-index l.query.tables)
    ≡ map (λ table. dist_by l.query table.hashed) l.query.tables
