use Rattle.std.proofs.Common.{◌≡◌, ◌∙◌, sym, subst}
use Rattle.job_trace.specs.Pieces.{piece_text, AreWritten}
use Rattle.job_trace.proofs.KeptPieces.{kept_at}
use Rattle.job_trace.proofs.pieces.Pieces.find.Goals as goal

-- the place holds this piece, with its text
pub returns-in-Some-Some : goal.returns-in-Some-Some
returns-in-Some-Some c = λ q kept.
    let all : c.as_slice.result.now ≡ c.args.self.now = c.as_slice.ensures.value ∙ c.self.view_is in
    let lookup = c.in-Some-Some.ensures.lookup in
    let text = kept_at q c.as_slice.result.now c.args.place c.in-Some-Some.field-0.now c.in-Some-Some.kept
    (subst (AreWritten q) (sym all) kept) lookup.3.0 lookup.1 c.in-Some-Some.field-0-is in
    let same : piece_text q c.in-Some-Some.kept.piece ≡ piece_text q c.args.piece =
    c.is_same.ensures q c.if-is_same.true in
    c.as_str.ensures ∙ text ∙ same
