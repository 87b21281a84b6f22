-- The words and symbols of a canonical text are pieces.
use Rattle.std.proofs.Common.{◌≡◌, ℕ, false, List, [], ◌∷◌, refl}
use Rattle.std.specs.Prelude.{is_some, codes}
use Rattle.sql_reader.specs.declared.tokens.Mark.TheVariants as marks
use Rattle.sql_reader.specs.declared.tokens.Kind.TheVariants as kinds
use Rattle.sql_reader.specs.declared.syntax.SelOp.{SelOp}
use Rattle.sql_reader.specs.declared.syntax.SelOp.TheVariants as ops
use Rattle.sql_reader.specs.Words.{word_of, symbol_of, long_symbol}
use Rattle.sql_reader.specs.Pieces.{blank, name, sign, EndsPiece}
use Rattle.sql_print.specs.Canonical.{op_text}
use Rattle.sql_print.proofs.CanonicalKinds.{op_mark, group_words, order_words}
use Rattle.sql_print.proofs.Printed.{Safe, Any, Printed, marks_printed}

-- ---- symbols that no byte makes longer

pub short_ends : (c : ℕ) → ((b : ℕ) → is_some (long_symbol c b) ≡ false) → (rest : List ℕ)
    → EndsPiece (λ byte. is_some (symbol_of (c ∷ byte ∷ []))) rest
short_ends c none [] = tt
short_ends c none (b ∷ rest) = none b

pub dot_printed : Printed Any (codes ".") (kinds.Mark marks.Dot ∷ [])
dot_printed = marks_printed Any (sign (codes ".") ∷ []) (kinds.Mark marks.Dot ∷ []) refl (refl, tt)
    (λ rest m. (refl, short_ends 46 (λ b. refl) rest, tt)) refl

pub close_printed : Printed Any (codes ")") (kinds.Mark marks.Close ∷ [])
close_printed = marks_printed Any (sign (codes ")") ∷ []) (kinds.Mark marks.Close ∷ []) refl (refl, tt)
    (λ rest m. (refl, short_ends 41 (λ b. refl) rest, tt)) refl

pub star_printed : Printed Any (codes "*") (kinds.Mark marks.Star ∷ [])
star_printed = marks_printed Any (sign (codes "*") ∷ []) (kinds.Mark marks.Star ∷ []) refl (refl, tt)
    (λ rest m. (refl, short_ends 42 (λ b. refl) rest, tt)) refl

pub comma_printed : Printed Any (codes ", ") (kinds.Mark marks.Comma ∷ [])
comma_printed = marks_printed Any (sign (codes ",") ∷ blank 32 ∷ []) (kinds.Mark marks.Comma ∷ []) refl (refl, tt)
    (λ rest m. (refl, refl, (refl, tt, tt))) refl

-- ---- words between spaces

pub as_printed : Printed Any (codes " AS ") (kinds.Mark marks.As ∷ [])
unfolding word_of
as_printed = marks_printed Any (blank 32 ∷ name (codes "AS") ∷ blank 32 ∷ []) (kinds.Mark marks.As ∷ []) refl
    (refl, tt) (λ rest m. (refl, tt, (refl, refl, (refl, tt, tt)))) refl

pub and_printed : Printed Any (codes " AND ") (kinds.Mark marks.And ∷ [])
unfolding word_of
and_printed = marks_printed Any (blank 32 ∷ name (codes "AND") ∷ blank 32 ∷ []) (kinds.Mark marks.And ∷ []) refl
    (refl, tt) (λ rest m. (refl, tt, (refl, refl, (refl, tt, tt)))) refl

pub from_printed : Printed Any (codes " FROM ") (kinds.Mark marks.From ∷ [])
unfolding word_of
from_printed = marks_printed Any (blank 32 ∷ name (codes "FROM") ∷ blank 32 ∷ []) (kinds.Mark marks.From ∷ []) refl
    (refl, tt) (λ rest m. (refl, tt, (refl, refl, (refl, tt, tt)))) refl

pub where_printed : Printed Any (codes " WHERE ") (kinds.Mark marks.Where ∷ [])
unfolding word_of
where_printed = marks_printed Any (blank 32 ∷ name (codes "WHERE") ∷ blank 32 ∷ []) (kinds.Mark marks.Where ∷ []) refl
    (refl, tt) (λ rest m. (refl, tt, (refl, refl, (refl, tt, tt)))) refl

pub group_printed : Printed Any (codes " GROUP BY ") group_words
unfolding word_of
group_printed = marks_printed Any (blank 32 ∷ name (codes "GROUP") ∷ blank 32 ∷ name (codes "BY") ∷ blank 32 ∷ [])
    group_words refl (refl, (refl, tt))
    (λ rest m. (refl, tt, (refl, refl, (refl, tt, (refl, refl, (refl, tt, tt)))))) refl

pub order_printed : Printed Any (codes " ORDER BY ") order_words
unfolding word_of
order_printed = marks_printed Any (blank 32 ∷ name (codes "ORDER") ∷ blank 32 ∷ name (codes "BY") ∷ blank 32 ∷ [])
    order_words refl (refl, (refl, tt))
    (λ rest m. (refl, tt, (refl, refl, (refl, tt, (refl, refl, (refl, tt, tt)))))) refl

pub select_printed : Printed Any (codes "SELECT ") (kinds.Mark marks.Select ∷ [])
unfolding word_of
select_printed = marks_printed Any (name (codes "SELECT") ∷ blank 32 ∷ []) (kinds.Mark marks.Select ∷ []) refl
    (refl, tt) (λ rest m. (refl, refl, (refl, tt, tt))) refl

pub desc_printed : Printed Safe (codes " DESC") (kinds.Mark marks.Desc ∷ [])
unfolding word_of
desc_printed = marks_printed Safe (blank 32 ∷ name (codes "DESC") ∷ []) (kinds.Mark marks.Desc ∷ []) refl (refl, tt)
    (λ rest m. (refl, tt, (refl, m.0, tt))) refl

pub op_printed : (op : SelOp) → Printed Any (op_text op) (kinds.Mark (op_mark op) ∷ [])
op_printed ops.Eq = marks_printed Any (blank 32 ∷ sign (codes "=") ∷ blank 32 ∷ []) (kinds.Mark marks.Equal ∷ []) refl
    (refl, tt) (λ rest m. (refl, tt, (refl, refl, (refl, tt, tt)))) refl
op_printed ops.Ne = marks_printed Any (blank 32 ∷ sign (codes "<>") ∷ blank 32 ∷ []) (kinds.Mark marks.NotEqual ∷ [])
    refl (refl, tt) (λ rest m. (refl, tt, (refl, refl, (refl, tt, tt)))) refl
op_printed ops.Lt = marks_printed Any (blank 32 ∷ sign (codes "<") ∷ blank 32 ∷ []) (kinds.Mark marks.Less ∷ []) refl
    (refl, tt) (λ rest m. (refl, tt, (refl, refl, (refl, tt, tt)))) refl
op_printed ops.Le = marks_printed Any (blank 32 ∷ sign (codes "<=") ∷ blank 32 ∷ []) (kinds.Mark marks.LessEqual ∷ [])
    refl (refl, tt) (λ rest m. (refl, tt, (refl, refl, (refl, tt, tt)))) refl
op_printed ops.Gt = marks_printed Any (blank 32 ∷ sign (codes ">") ∷ blank 32 ∷ []) (kinds.Mark marks.Greater ∷ [])
    refl (refl, tt) (λ rest m. (refl, tt, (refl, refl, (refl, tt, tt)))) refl
op_printed ops.Ge = marks_printed Any (blank 32 ∷ sign (codes ">=") ∷ blank 32 ∷ [])
    (kinds.Mark marks.GreaterEqual ∷ []) refl (refl, tt) (λ rest m. (refl, tt, (refl, refl, (refl, tt, tt)))) refl
