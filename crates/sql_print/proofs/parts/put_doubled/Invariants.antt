-- the bytes so far are written, each quote twice
use Rattle.std.proofs.Common.{◌≡◌, ◌++◌, take}
use Rattle.sql_reader.specs.Pieces.{doubled}
use Rattle.sql_print.proofs.parts.put_doubled.Given as goal

abbrev pub invariant-loop-byte : goal.invariant-loop-byte
invariant-loop-byte l = l.out.items ≡ l.initial.out.items ++ doubled (take l.byte-index l.text)
