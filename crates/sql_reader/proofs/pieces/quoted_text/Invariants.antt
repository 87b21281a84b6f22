-- what was read before, and what is still read, is what is read in all
use Rattle.std.proofs.Common.{length, string_bytes, false}
use Rattle.std.specs.Option.{option_map}
use Rattle.sql_reader.specs.Cutting.{quoted_from, shown_text}
use Rattle.sql_reader.proofs.Quotes.{ReadsOn}
use Rattle.sql_reader.proofs.pieces.quoted_text.Given as goal

abbrev pub invariant-bytes : goal.invariant-bytes
invariant-bytes l =
    ReadsOn (string_bytes l.text) l.after_quote l.rest (option_map shown_text (quoted_from false l.bytes))

abbrev pub decreases-bytes : goal.decreases-bytes
decreases-bytes l = length l.rest
