-- the columns before the place are copied
use Rattle.std.proofs.Common.{◌≡◌, ◌++◌, drop}
use Rattle.dump_replay.proofs.copies.column_copies.Given as goal

abbrev pub invariant-loop-column : goal.invariant-loop-column
invariant-loop-column l = l.copies ++ drop l.column-index l.columns ≡ l.columns
