-- The pieces that lines of goals have in common.
use Rattle.std.specs.Prelude.{ℕ, ◌≡◌, List, ◌++◌, All, Option, IfSome, codes}
use Rattle.query_core.specs.Expressions.{expr_of}
use Rattle.query_core.specs.declared.query.Query.{Query}
use Rattle.goal_space.specs.declared.goals.GoalKind.TheVariants.{Opt}
use Rattle.job_trace.specs.Goals.{child_line}
use Rattle.job_trace.specs.Members.{member_text}
use Rattle.job_trace.specs.Requests.{request_text}
use Rattle.job_trace.specs.declared.pieces.Piece.{Piece}
use Rattle.job_trace.specs.declared.pieces.Piece.TheVariants.{Child, Member, Wanted}
use Rattle.job_trace.specs.declared.pieces.Written.{Written}

-- the whole line of a child; an expression, with all that stands before the request; and a request, with the end of its
-- line
abbrev pub piece_text : Query → Piece → List ℕ
piece_text q (Child group wanted) = child_line q (Opt group wanted)
piece_text q (Member e) = codes "OptE " ++ member_text q (expr_of e) ++ codes " "
piece_text q (Wanted wanted) = request_text q wanted ++ codes "\n"

-- each piece that is kept has its text
abbrev pub AreWritten : Query → List (Option Written) → Type 0
AreWritten q places = All (λ place. IfSome place (λ kept. kept.text ≡ piece_text q kept.piece)) places
