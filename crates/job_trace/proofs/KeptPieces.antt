-- Pieces with their texts, each at its place.
use Rattle.std.proofs.Common.{◌≡◌, ℕ, ◌<◌, List, Option, Some, IfSome, get_or, length, sym, subst, ◌∙◌}
use Rattle.query_core.specs.declared.query.Query.{Query}
use Rattle.job_trace.specs.Pieces.{piece_text, AreWritten}
use Rattle.job_trace.specs.declared.pieces.Written.{Written}

-- the place holds nothing, or a piece with its text
abbrev pub IsKept : Query → Option Written → Type 0
IsKept q place = IfSome place (λ kept. kept.text ≡ piece_text q kept.piece)

-- what is found at a place has its text
pub kept_at : (q : Query) (places : List (Option Written)) (at : ℕ) (place : Option Written) (found : Written)
    → AreWritten q places → at < length places
    → place ≡ get_or places at place → place ≡ Some found → found.text ≡ piece_text q found.piece
kept_at q places at place found kept within is has = subst (IsKept q) (sym is ∙ has) (kept at place within)
