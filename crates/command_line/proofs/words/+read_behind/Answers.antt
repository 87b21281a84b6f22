use Rattle.std.proofs.Common.{◌≡◌, ◌++◌, ◌∷◌, [], Some, option_map, map, string_bytes, sym, ap, ◌∙◌, refl}
use Rattle.command_line.specs.Reading.{valued_piece, piece_of, in_front, pieces_of}
use Rattle.command_line.specs.Views.{piece, command_read}
use Rattle.command_line.proofs.FirstPieces.{piece_first, valued_first, alone_first, no_room}
use Rattle.command_line.proofs.words.+read_behind.Goals as goal

-- the command has no room for the option that stands first
pub returns-in_err-with : goal.returns-in_err-with
returns-in_err-with t c = λ task before is.
    let first = piece c.in_ok-read_valued.field-0 in
    let words = map string_bytes c.args.words.now in
    let more = map string_bytes c.in_ok-value.more.now in
    let read : valued_piece (string_bytes c.in-Some.word.now) (string_bytes c.in_ok-value.value.now) ≡ Some first =
    sym c.read_valued.ensures ∙ ap (option_map piece) c.in_ok-read_valued.was in
    let pieces : pieces_of words ≡ in_front (Some first) (pieces_of more) =
    valued_first words _ _ more (map string_bytes c.in-Some.more.now) (ap (map string_bytes) c.in-Some.ensures.cases.0)
    (ap (map string_bytes) c.in_ok-value.ensures.cases.0) (sym c.takes_value.ensures ∙ c.if-takes_value.true)
    ∙ ap (λ f. in_front f (pieces_of more)) read in
    ap (option_map command_read) c.from_residual-in_err-with.ensures
    ∙ sym (no_room task before first words more pieces
    (λ after. c.in_err-with.ensures.refused refl task before after is))

-- an option and its value stand first
pub returns-in_ok-with : goal.returns-in_ok-with
returns-in_ok-with t c = λ task before is.
    let first = piece c.in_ok-read_valued.field-0 in
    let words = map string_bytes c.args.words.now in
    let more = map string_bytes c.in_ok-value.more.now in
    let read : valued_piece (string_bytes c.in-Some.word.now) (string_bytes c.in_ok-value.value.now) ≡ Some first =
    sym c.read_valued.ensures ∙ ap (option_map piece) c.in_ok-read_valued.was in
    let pieces : pieces_of words ≡ in_front (Some first) (pieces_of more) =
    valued_first words _ _ more (map string_bytes c.in-Some.more.now) (ap (map string_bytes) c.in-Some.ensures.cases.0)
    (ap (map string_bytes) c.in_ok-value.ensures.cases.0) (sym c.takes_value.ensures ∙ c.if-takes_value.true)
    ∙ ap (λ f. in_front f (pieces_of more)) read in
    c.read_behind.ensures task (before ++ first ∷ []) (c.in_ok-with.ensures.added task before is)
    ∙ piece_first task before first words more pieces

-- another word stands first
pub returns-in_ok-with-2 : goal.returns-in_ok-with-2
returns-in_ok-with-2 t c = λ task before is.
    let first = piece c.in_ok-read_word.field-0 in
    let words = map string_bytes c.args.words.now in
    let more = map string_bytes c.in-Some.more.now in
    let read : piece_of (string_bytes c.in-Some.word.now) ≡ Some first = sym c.read_word.ensures
    ∙ ap (option_map piece) c.in_ok-read_word.was in
    let pieces : pieces_of words ≡ in_front (Some first) (pieces_of more) =
    alone_first words _ more (ap (map string_bytes) c.in-Some.ensures.cases.0) (sym c.takes_value.ensures
    ∙ c.if-takes_value.false) ∙ ap (λ f. in_front f (pieces_of more)) read in
    c.read_behind-else-takes_value.ensures task (before ++ first ∷ [])
    (c.in_ok-with-2.ensures.added task before is) ∙ piece_first task before first words more pieces
