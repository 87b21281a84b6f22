-- of the tables before the place those are copied that FROM names
use Rattle.std.proofs.Common.{◌≡◌, filter, take}
use Rattle.dump_replay.specs.Named.{is_named}
use Rattle.dump_replay.proofs.named.named_tables.Given as goal

abbrev pub invariant-loop-table : goal.invariant-loop-table
invariant-loop-table l = l.named ≡ filter (is_named l.from) (take l.table-index l.tables)
