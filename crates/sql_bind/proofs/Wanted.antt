-- The used columns are those that are wanted.
use Rattle.std.proofs.Common.{◌≡◌, ◌⊎◌, ℕ, ◌+◌, Bool, true, false, cond, List, [], ◌∷◌, ◌++◌, refl}
use Rattle.std.specs.List.{list_all}
use Rattle.std.proofs.lemmas.Bool.{and_from}
use Rattle.sql_bind.proofs.Truths.{all_both}
use Rattle.query_core.specs.declared.catalog.ColumnInfo.{ColumnInfo}
use Rattle.sql_bind.specs.declared.columns.Column.{Column}
use Rattle.sql_bind.specs.Scope.{FromTable}
use Rattle.sql_bind.specs.Columns.{column, is_among}
use Rattle.sql_bind.specs.Used.{UsedColumn, used_from, used_in}
use Rattle.sql_bind.specs.UsedColumns.{HasNumber}
use Rattle.sql_bind.proofs.Ascending.{at_number}
use Rattle.sql_bind.proofs.Among.{either_list}

-- ---- each used column is wanted

module _ (wanted : List Column) where
  wanted_case : (u : UsedColumn) (rest : List UsedColumn) (b : Bool) → is_among wanted u.which ≡ b
      → list_all (λ x. is_among wanted x.which) rest ≡ true
      → list_all (λ x. is_among wanted x.which) (cond b (u ∷ rest) rest) ≡ true
  wanted_case u rest true is all = and_from (is_among wanted u.which) (list_all (λ x. is_among wanted x.which) rest) is
      all
  wanted_case u rest false is all = all

  wanted_in : (table place : ℕ) (infos : List ColumnInfo)
      → list_all (λ u. is_among wanted u.which) (used_in wanted table place infos) ≡ true
  wanted_in table place [] = refl
  wanted_in table place (info ∷ infos) =
      wanted_case (record { which = column table place; info = info }) (used_in wanted table (place + 1) infos)
      (is_among wanted (column table place)) refl (wanted_in table (place + 1) infos)

  all_wanted : (base : ℕ) (scope : List FromTable)
      → list_all (λ u. is_among wanted u.which) (used_from wanted base scope) ≡ true
  all_wanted base [] = refl
  all_wanted base (t ∷ ts) =
      all_both (λ u. is_among wanted u.which) (used_in wanted base 0 t.info.columns) (used_from wanted (base + 1) ts)
      (wanted_in base 0 t.info.columns) (all_wanted (base + 1) ts)

-- a used column is one of those that are named, or of those that are listed
pub only_wanted : (named listed : List Column) (scope : List FromTable) (n : ℕ) (c : Column)
    → HasNumber (used_from (named ++ listed) 0 scope) c n → (is_among named c ≡ true) ⊎ (is_among listed c ≡ true)
only_wanted named listed scope n c here =
    let there = at_number (λ u. is_among (named ++ listed) u.which) (used_from (named ++ listed) 0 scope) n c
    (all_wanted (named ++ listed) 0 scope) here in
    either_list named listed c (rw there.which at there.passes)

-- ---- what is wanted decides, and not in which order

module _ (wanted other : List Column) (same : (c : Column) → is_among wanted c ≡ is_among other c) where
  same_in : (table place : ℕ) (infos : List ColumnInfo)
      → used_in wanted table place infos ≡ used_in other table place infos
  same_in table place [] = refl
  same_in table place (info ∷ infos) = rw (same (column table place), same_in table (place + 1) infos) refl

  pub same_used : (base : ℕ) (scope : List FromTable) → used_from wanted base scope ≡ used_from other base scope
  same_used base [] = refl
  same_used base (t ∷ ts) = rw (same_in base 0 t.info.columns, same_used (base + 1) ts) refl
