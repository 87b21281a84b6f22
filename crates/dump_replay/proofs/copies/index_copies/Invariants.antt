-- the indexes before the place are copied
use Rattle.std.proofs.Common.{◌≡◌, ◌++◌, drop}
use Rattle.dump_replay.proofs.copies.index_copies.Given as goal

abbrev pub invariant-loop-index : goal.invariant-loop-index
invariant-loop-index l = l.copies ++ drop l.index-index l.indexes ≡ l.indexes
