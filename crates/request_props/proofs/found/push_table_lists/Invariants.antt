use Rattle.std.proofs.Common.{◌≡◌, ◌++◌, drop}
use Rattle.std.specs.Prelude.{filter_map}
use Rattle.request_props.specs.Found.{table_lists}
use Rattle.request_props.proofs.found.push_table_lists.Given as goal

-- the lists so far, and those of the tables that are left
abbrev pub invariant-loop-table : goal.invariant-loop-table
invariant-loop-table l =
    l.found.items ++ filter_map (λ table. table.hashed)
    (drop l.table-index l.query.tables) ≡ l.fn.found.items ++ table_lists l.query
