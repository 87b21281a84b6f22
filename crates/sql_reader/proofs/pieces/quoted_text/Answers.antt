use Rattle.std.proofs.Common.{◌≡◌, ◌++◌, ◌∷◌, [], false, string_bytes, sym, rules}
use Rattle.std.specs.Option.{option_map}
use Rattle.sql_reader.specs.Lexing.{shown}
use Rattle.sql_reader.specs.Cutting.{quoted_from, shown_text}
use Rattle.sql_reader.proofs.Quotes.{ReadsOn, part, may_close, closed}
use Rattle.sql_reader.proofs.pieces.quoted_text.Goals as goal

-- the byte is part of the text
pub bytes-preserved-in_ok-push-in-Part : goal.bytes-preserved-in_ok-push-in-Part
bytes-preserved-in_ok-push-in-Part c =
    let text = string_bytes c.bytes.text in
    let byte = c.in-Some.byte.now in
    let more = c.in-Some.more.now in
    let total = option_map shown_text (quoted_from false c.args.bytes.now) in
    let left : c.bytes.rest.now ≡ byte ∷ more = c.in-Some.ensures.cases.0 in
    let here : ReadsOn text c.bytes.after_quote (byte ∷ more) total = rw left at c.bytes.invariant in
    let pushed : string_bytes c.push.new.self ≡ text ++ shown c.in-Part.byte ∷ [] = search rules in
    rw pushed (part text c.bytes.after_quote byte more total c.in-Part.byte (sym c.in-Part.ensures) here)

-- the byte may close the text
pub bytes-preserved : goal.bytes-preserved
bytes-preserved c =
    let text = string_bytes c.bytes.text in
    let byte = c.in-Some.byte.now in
    let more = c.in-Some.more.now in
    let total = option_map shown_text (quoted_from false c.args.bytes.now) in
    let left : c.bytes.rest.now ≡ byte ∷ more = c.in-Some.ensures.cases.0 in
    let here : ReadsOn text c.bytes.after_quote (byte ∷ more) total = rw left at c.bytes.invariant in
    may_close text c.bytes.after_quote byte more total (sym c.in-MayClose.ensures) here

-- the quote before it closed the text
pub returns-in-Closed : goal.returns-in-Closed
returns-in-Closed c =
    let text = string_bytes c.bytes.text in
    let byte = c.in-Some.byte.now in
    let more = c.in-Some.more.now in
    let total = option_map shown_text (quoted_from false c.args.bytes.now) in
    let left : c.bytes.rest.now ≡ byte ∷ more = c.in-Some.ensures.cases.0 in
    let here : ReadsOn text c.bytes.after_quote (byte ∷ more) total = rw left at c.bytes.invariant in
    rw (c.of-in-Closed.ensures, left)
    (closed text c.bytes.after_quote byte more total (sym c.in-Closed.ensures) here)
