use Rattle.std.proofs.Common.{◌≡◌, ◌+◌, ◌++◌, ◌∷◌, [], take, get_or, string_bytes, refl, rules}
use Rattle.std.proofs.lemmas.List.{map_push, take_more}
use Rattle.sql_reader.specs.Lexing.{shown}
use Rattle.sql_reader.proofs.pieces.text_of.Goals as goal

-- the byte at the place is shown too
pub loop-byte-preserved : goal.loop-byte-preserved
loop-byte-preserved c =
    let loop = c.loop-byte in
    let bytes = c.args.bytes.now in
    let byte = get_or bytes loop.byte-index 0 in
    let pushed : string_bytes c.push.new.self ≡ string_bytes loop.text ++ shown byte ∷ [] = search rules in
    let whole : take (loop.byte-index + 1) bytes ≡ take loop.byte-index bytes ++ byte ∷ [] =
    take_more bytes loop.byte-index 0 c.loop-byte-test.true in
    rw (pushed, loop.invariant, whole, map_push shown (take loop.byte-index bytes) byte) refl
