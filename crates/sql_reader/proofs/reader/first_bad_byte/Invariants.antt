-- the bytes so far may stand where they are
use Rattle.std.proofs.Common.{◌≡◌, drop}
use Rattle.sql_reader.specs.Outcome.{first_bad}
use Rattle.sql_reader.proofs.reader.first_bad_byte.Given as goal

abbrev pub invariant-loop-at : goal.invariant-loop-at
invariant-loop-at l = first_bad l.at (drop l.at l.text) ≡ first_bad 0 l.text
