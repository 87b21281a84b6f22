-- Which columns are among those of a list that two make, or that begins with one.
use Rattle.std.proofs.Common.{◌≡◌, ◌∙◌, ◌⊎◌, true, List, ◌∷◌, ◌++◌, sym}
use Rattle.std.proofs.lemmas.List.Folds.{list_any-append}
use Rattle.std.proofs.lemmas.Bool.{or_cases, or_left, or_right}
use Rattle.sql_bind.specs.declared.columns.Column.{Column}
use Rattle.sql_bind.specs.Columns.{is_among, is_same}
use Rattle.sql_bind.proofs.Found.{is_itself}

-- one of the first columns, or one of the others
pub among_left : (cs ds : List Column) (c : Column) → is_among cs c ≡ true → is_among (cs ++ ds) c ≡ true
among_left cs ds c among = list_any-append (is_same c) cs ds ∙ or_left (is_among cs c) (is_among ds c) among

pub among_right : (cs ds : List Column) (c : Column) → is_among ds c ≡ true → is_among (cs ++ ds) c ≡ true
among_right cs ds c among = list_any-append (is_same c) cs ds ∙ or_right (is_among cs c) (is_among ds c) among

pub among_first : (c : Column) (cs : List Column) → is_among (c ∷ cs) c ≡ true
among_first c cs = or_left (is_same c c) (is_among cs c) (is_itself c)

pub among_later : (c d : Column) (cs : List Column) → is_among cs c ≡ true → is_among (d ∷ cs) c ≡ true
among_later c d cs among = or_right (is_same c d) (is_among cs c) among

-- one of both lists is one of the first, or one of the second
pub either_list : (cs ds : List Column) (c : Column) → is_among (cs ++ ds) c ≡ true → (is_among cs c ≡ true)
    ⊎ (is_among ds c ≡ true)
either_list cs ds c among = or_cases (is_among cs c) (is_among ds c) (sym (list_any-append (is_same c) cs ds) ∙ among)
