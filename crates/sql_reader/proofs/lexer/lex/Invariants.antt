-- the text is pieces up to the rest, and these are their tokens
use Rattle.std.proofs.Common.{length}
use Rattle.sql_reader.proofs.Added.{AreSoFar}
use Rattle.sql_reader.proofs.lexer.lex.Given as goal

abbrev pub invariant-pieces : goal.invariant-pieces
invariant-pieces l = AreSoFar l.text l.tokens.items l.rest

abbrev pub decreases-pieces : goal.decreases-pieces
decreases-pieces l = length l.rest
