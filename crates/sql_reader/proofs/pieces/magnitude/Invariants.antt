-- with the digits that are left, the number is the whole number
use Rattle.std.proofs.Common.{◌≡◌, drop}
use Rattle.sql_reader.specs.Pieces.{number_from}
use Rattle.sql_reader.proofs.pieces.magnitude.Given as goal

abbrev pub invariant-loop-digit : goal.invariant-loop-digit
invariant-loop-digit l = number_from l.number (drop l.digit-index l.digits) ≡ number_from 0 l.digits
