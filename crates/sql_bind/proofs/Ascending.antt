-- The used columns ascend by table and place, and so each comes once.
use Rattle.std.proofs.Common.{◌≡◌, ℕ, zero, suc, ◌+◌, ◌<◌, ◌||◌, ◌&&◌, ◌==◌, Bool, true, false, cond, List, [], ◌∷◌}
use Rattle.std.proofs.Common.{◌++◌, map, nat_le, nat_lt, refl, ap, arith}
use Rattle.std.specs.List.{list_all, list_any}
use Rattle.std.proofs.lemmas.Bool.Decides.{nat_tests}
use Rattle.std.proofs.lemmas.Bool.{and_from, and_parts}
use Rattle.sql_bind.proofs.Truths.{all_both}
use Rattle.query_core.specs.Differ.{all_differ}
use Rattle.query_core.specs.declared.catalog.ColumnInfo.{ColumnInfo}
use Rattle.sql_bind.specs.declared.columns.Column.{Column}
use Rattle.sql_bind.specs.Scope.{FromTable}
use Rattle.sql_bind.specs.Columns.{column, is_among, is_same}
use Rattle.sql_bind.specs.Used.{UsedColumn, used_from, used_in}
use Rattle.sql_bind.specs.Numbers.{column_number}
use Rattle.sql_bind.specs.UsedColumns.{HasNumber, ascend, comes_before}
use Rattle.sql_bind.proofs.Found.{is_itself}
use Rattle.sql_bind.proofs.ItemsKept.{all_above, constantly, each_in}

-- ---- one table

module _ (wanted : List Column) (table : ℕ) where
  kept_case : (test : UsedColumn → Bool) (u : UsedColumn) (rest : List UsedColumn) (b : Bool) → test u ≡ true
      → list_all test rest ≡ true → list_all test (cond b (u ∷ rest) rest) ≡ true
  kept_case test u rest true one all = and_from (test u) (list_all test rest) one all
  kept_case test u rest false one all = all

  before_place : (p q : ℕ) → p < q → (nat_lt table table || (table == table && nat_lt p q)) ≡ true
  before_place p q lt = grind (arith, nat_tests)

  -- a column comes before those at later places
  later_in : (u : UsedColumn) (p place : ℕ) (infos : List ColumnInfo) → u.which ≡ column table p → p < place
      → list_all (comes_before u) (used_in wanted table place infos) ≡ true
  later_in u p place [] is lt = refl
  later_in u p place (info ∷ infos) is lt =
      kept_case (comes_before u) (record { which = column table place; info = info })
      (used_in wanted table (place + 1) infos) (is_among wanted (column table place))
      (rw is (before_place p place lt)) (later_in u p (place + 1) infos is (omega arith))

  ascend_case : (u : UsedColumn) (rest : List UsedColumn) (b : Bool) → list_all (comes_before u) rest ≡ true
      → ascend rest ≡ true → ascend (cond b (u ∷ rest) rest) ≡ true
  ascend_case u rest true first others = and_from (list_all (comes_before u) rest) (ascend rest) first others
  ascend_case u rest false first others = others

  ascend_in : (place : ℕ) (infos : List ColumnInfo) → ascend (used_in wanted table place infos) ≡ true
  ascend_in place [] = refl
  ascend_in place (info ∷ infos) =
      let u : UsedColumn = record { which = column table place; info = info } in
      ascend_case u (used_in wanted table (place + 1) infos) (is_among wanted (column table place))
      (later_in u place (place + 1) infos refl (omega arith)) (ascend_in (place + 1) infos)

-- ---- all tables

ascend_both : (us vs : List UsedColumn) → ascend us ≡ true → ascend vs ≡ true
    → list_all (λ u. list_all (comes_before u) vs) us ≡ true → ascend (us ++ vs) ≡ true
ascend_both [] vs these those across = those
ascend_both (u ∷ us) vs these those across =
    let parts = and_parts (list_all (comes_before u) us) (ascend us) these in
    let others = and_parts (list_all (comes_before u) vs) (list_all (λ x. list_all (comes_before x) vs) us) across in
    and_from (list_all (comes_before u) (us ++ vs)) (ascend (us ++ vs))
    (all_both (comes_before u) us vs parts.0 others.0) (ascend_both us vs parts.1 those others.1)

earlier_table : (u v : UsedColumn) (base : ℕ) → nat_lt u.which.table (base + 1) ≡ true
    → nat_le (base + 1) v.which.table ≡ true → comes_before u v ≡ true
earlier_table u v base low high = let less : nat_lt u.which.table v.which.table ≡ true = grind (arith, nat_tests) in
    rw less refl

before_all : (u : UsedColumn) (base : ℕ) (vs : List UsedColumn) → nat_lt u.which.table (base + 1) ≡ true
    → list_all (λ v. nat_le (base + 1) v.which.table) vs ≡ true → list_all (comes_before u) vs ≡ true
before_all u base [] low high = refl
before_all u base (v ∷ vs) low high =
    let parts = and_parts (nat_le (base + 1) v.which.table) (list_all (λ x. nat_le (base + 1) x.which.table) vs) high in
    and_from (comes_before u v) (list_all (comes_before u) vs) (earlier_table u v base low parts.0)
    (before_all u base vs low parts.1)

across_tables : (base : ℕ) (us vs : List UsedColumn) → list_all (λ u. nat_lt u.which.table (base + 1)) us ≡ true
    → list_all (λ v. nat_le (base + 1) v.which.table) vs ≡ true
    → list_all (λ u. list_all (comes_before u) vs) us ≡ true
across_tables base [] vs low high = refl
across_tables base (u ∷ us) vs low high =
    let parts = and_parts (nat_lt u.which.table (base + 1)) (list_all (λ x. nat_lt x.which.table (base + 1)) us) low in
    and_from (list_all (comes_before u) vs) (list_all (λ x. list_all (comes_before x) vs) us)
    (before_all u base vs parts.0 high) (across_tables base us vs parts.1 high)

next : (n : ℕ) → nat_lt n (n + 1) ≡ true
next n = grind (arith, nat_tests)

pub ascend_from : (wanted : List Column) (base : ℕ) (scope : List FromTable)
    → ascend (used_from wanted base scope) ≡ true
ascend_from wanted base [] = refl
ascend_from wanted base (t ∷ ts) =
    let us = used_in wanted base 0 t.info.columns in
    ascend_both us (used_from wanted (base + 1) ts) (ascend_in wanted base 0 t.info.columns)
    (ascend_from wanted (base + 1) ts)
    (across_tables base us (used_from wanted (base + 1) ts)
    (each_in wanted (λ u. nat_lt u.which.table (base + 1)) base 0 t.info.columns
    (λ p. constantly (nat_lt base (base + 1)) t.info.columns (next base))) (all_above wanted (base + 1) ts))

-- ---- what ascends comes once

before_differs : (u v : UsedColumn) → comes_before u v ≡ true → is_same u.which v.which ≡ false
before_differs u v before = grind (arith, nat_tests)

none_same : (u : UsedColumn) (vs : List UsedColumn) → list_all (comes_before u) vs ≡ true
    → list_any (is_same u.which) (map (λ v. v.which) vs) ≡ false
none_same u [] before = refl
none_same u (v ∷ vs) before =
    let parts = and_parts (comes_before u v) (list_all (comes_before u) vs) before in
    rw (before_differs u v parts.0) (none_same u vs parts.1)

pub ascending_differ : (us : List UsedColumn) → ascend us ≡ true → all_differ is_same (map (λ u. u.which) us) ≡ true
ascending_differ [] ascending = refl
ascending_differ (u ∷ us) ascending =
    let parts = and_parts (list_all (comes_before u) us) (ascend us) ascending in
    rw (none_same u us parts.0) (ascending_differ us parts.1)

-- ---- what stands at a number

pub record StandsThere (test : UsedColumn → Bool) (c : Column) : Type 0 where
  pub used : UsedColumn
  pub which : used.which ≡ c
  pub passes : test used ≡ true

-- what all pass, the column at the number passes
pub at_number : (test : UsedColumn → Bool) (us : List UsedColumn) (n : ℕ) (c : Column) → list_all test us ≡ true
    → HasNumber us c n → StandsThere test c
at_number test [] n c all here = absurd cc
at_number test (u ∷ us) zero c all here =
    record { used = u; which = cc; passes = (and_parts (test u) (list_all test us) all).0 }
at_number test (u ∷ us) (suc n) c all here = at_number test us n c (and_parts (test u) (list_all test us) all).1 here

-- it has that number alone
pub only_number : (us : List UsedColumn) (n : ℕ) (c : Column) → ascend us ≡ true → HasNumber us c n
    → n ≡ column_number us c
only_number [] n c ascending here = absurd cc
only_number (u ∷ us) zero c ascending here = let same : u.which ≡ c = cc in rw (same, is_itself c) refl
only_number (u ∷ us) (suc n) c ascending here =
    let parts = and_parts (list_all (comes_before u) us) (ascend us) ascending in
    let there = at_number (comes_before u) us n c parts.0 here in
    let other : is_same u.which c ≡ false = rw (← there.which) (before_differs u there.used there.passes) in
    rw other (ap suc (only_number us n c parts.1 here))
