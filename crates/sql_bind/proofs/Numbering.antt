-- Columns in a set, and the number of a column as its place there.
use Rattle.std.proofs.Common.{◌≡◌, ◌∙◌, ℕ, suc, ◌+◌, ◌≤◌, ◌||◌, Bool, true, false, cond, List, [], ◌∷◌, ◌++◌, length}
use Rattle.std.proofs.Common.{map, position, nat_lt, Some, None, refl, sym, ap, arith}
use Rattle.std.specs.List.{list_any, position_or_len}
use Rattle.std.proofs.lemmas.Bool.Decides.{nat_tests}
use Rattle.std.proofs.lemmas.List.Folds.{list_any-append}
use Rattle.std.proofs.lemmas.List.Sums.{prefix_len-le-length}
use Rattle.std.proofs.lemmas.List.Recursion.{is_position_or_len}
use Rattle.std.proofs.Math.Bool.{or-false}
use Rattle.sql_bind.specs.declared.columns.Column.{Column}
use Rattle.sql_bind.specs.Columns.{is_among, is_same}
use Rattle.sql_bind.specs.Used.{UsedColumn}
use Rattle.sql_bind.specs.Numbers.{column_number}
use Rattle.sql_bind.proofs.Found.{same_is}
use Rattle.sql_bind.proofs.NameLemmas.{position-map}

pub same_turned : (c d : Column) → is_same c d ≡ is_same d c
same_turned c d = grind (arith, nat_tests)

-- the column is compared with each of these
pub among_turned : (c : Column) (ds : List Column) → list_any (λ d. is_same d c) ds ≡ is_among ds c
among_turned c [] = refl
among_turned c (d ∷ ds) = rw (same_turned d c, among_turned c ds) refl

-- ---- one column more in a set

there_case : (keys : List Column) (c q : Column) (b : Bool) → is_same q c ≡ b → is_among keys c ≡ true
    → is_among keys q ≡ (is_among keys q || b)
there_case keys c q true is there = let same : q ≡ c = same_is q c is in rw (same, there) refl
there_case keys c q false is there = sym (or-false (is_among keys q))

insert_case : (keys : List Column) (c q : Column) (b : Bool) → is_among keys c ≡ b
    → is_among (cond b keys (keys ++ c ∷ [])) q ≡ (is_among keys q || is_same q c)
insert_case keys c q true is = there_case keys c q (is_same q c) refl is
insert_case keys c q false is = list_any-append (is_same q) keys (c ∷ [])
    ∙ ap (λ b. is_among keys q || b) (or-false (is_same q c))

-- a set with one column more, which may have been there
pub among_insert : (keys : List Column) (c q : Column)
    → is_among (cond (is_among keys c) keys (keys ++ c ∷ [])) q ≡ (is_among keys q || is_same q c)
among_insert keys c q = insert_case keys c q (is_among keys c) refl

-- a list with one column more
pub among_push : (cs : List Column) (c q : Column) → is_among (cs ++ c ∷ []) q ≡ (is_among cs q || is_same q c)
among_push cs c q = list_any-append (is_same q) cs (c ∷ []) ∙ ap (λ b. is_among cs q || b) (or-false (is_same q c))

-- ---- the number of a column

module _ (c : Column) where
  first_case : (b : Bool) (n : ℕ) → cond b 0 (suc n) ≡ cond b 0 (1 + n)
  first_case true n = refl
  first_case false n = omega arith

  first_step : (u : UsedColumn) (us : List UsedColumn)
      → column_number (u ∷ us) c ≡ cond (is_same c u.which) 0 (1 + column_number us c)
  first_step u us = rw (same_turned u.which c) (first_case (is_same c u.which) (column_number us c))

  number_is : (us : List UsedColumn) → column_number us c ≡ position_or_len (λ u. is_same c u.which) us
  number_is us = is_position_or_len (λ us. column_number us c) (λ u. is_same c u.which) refl first_step us

  some_case : (b : Bool) (p n : ℕ) → cond b (Some p) None ≡ Some n → n ≡ p
  some_case true p n e = cc
  some_case false p n e = absurd cc

  none_case : (b : Bool) (p : ℕ) → cond b (Some p) None ≡ None → b ≡ false
  none_case true p e = absurd cc
  none_case false p e = refl

  -- a column that is used has its place as number
  pub number_found : (us : List UsedColumn) (n : ℕ) → position (is_same c) (map (λ u. u.which) us) ≡ Some n
      → n ≡ column_number us c
  number_found us n found =
      let test = λ (u : UsedColumn). is_same c u.which in
      some_case (nat_lt (position_or_len test us) (length us)) (position_or_len test us) n
      (sym (position-map (λ (u : UsedColumn). u.which) (is_same c) us) ∙ found) ∙ sym (number_is us)

  -- all used columns come before one that isn't used
  pub number_missing : (us : List UsedColumn) → position (is_same c) (map (λ u. u.which) us) ≡ None
      → length us ≡ column_number us c
  number_missing us none =
      let test = λ (u : UsedColumn). is_same c u.which in
      let high : nat_lt (position_or_len test us) (length us) ≡ false =
      none_case (nat_lt (position_or_len test us) (length us)) (position_or_len test us)
      (sym (position-map (λ (u : UsedColumn). u.which) (is_same c) us) ∙ none) in
      let low : position_or_len test us ≤ length us = prefix_len-le-length _ us in
      let whole : length us ≡ position_or_len test us = grind (arith, nat_tests) in
      whole ∙ sym (number_is us)
