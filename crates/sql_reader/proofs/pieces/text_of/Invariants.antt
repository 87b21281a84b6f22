-- the bytes so far are shown
use Rattle.std.proofs.Common.{◌≡◌, take, map, string_bytes}
use Rattle.sql_reader.specs.Lexing.{shown}
use Rattle.sql_reader.proofs.pieces.text_of.Given as goal

abbrev pub invariant-loop-byte : goal.invariant-loop-byte
invariant-loop-byte l = string_bytes l.text ≡ map shown (take l.byte-index l.bytes)
