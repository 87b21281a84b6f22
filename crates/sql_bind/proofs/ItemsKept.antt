-- The used columns are items of a query, and the lists of its tables are lists of them.
use Rattle.std.proofs.Common.{◌≡◌, ◌∙◌, ℕ, ◌≤◌, ◌<◌, ◌+◌, ◌||◌, ◌&&◌, ◌==◌, Bool, true, false, not, cond, List, [], ◌∷◌}
use Rattle.std.proofs.Common.{◌++◌, length, map, nat_le, nat_lt, bytes_eq, refl, arith}
use Rattle.std.specs.Prelude.{⊤}
use Rattle.std.specs.List.{list_all, list_any, AllByRecursion}
use Rattle.std.proofs.lemmas.List.{map-append}
use Rattle.std.proofs.lemmas.List.Folds.{list_any-append}
use Rattle.std.proofs.lemmas.Bool.Decides.{nat_tests}
use Rattle.orca_base.specs.Name.{has_name_form}
use Rattle.std.proofs.lemmas.List.Elements.{recursion_from_All}
use Rattle.std.proofs.lemmas.Bool.{and_from, and_parts, not-true, or_parts}
use Rattle.sql_bind.proofs.Truths.{all_both}
use Rattle.query_core.specs.Differ.{all_differ}
use Rattle.query_core.specs.Histogram.{may_be_histogram}
use Rattle.query_core.specs.Items.{same_column}
use Rattle.query_core.specs.declared.catalog.ColumnInfo.{ColumnInfo}
use Rattle.query_core.specs.declared.table.Item.{Item}
use Rattle.query_core.specs.Catalog.{IsColumn, IsTable}
use Rattle.sql_bind.specs.declared.columns.Column.{Column}
use Rattle.sql_bind.specs.Scope.{FromTable}
use Rattle.sql_bind.specs.Columns.{column, is_among}
use Rattle.sql_bind.specs.Used.{UsedColumn, used_from, used_in}
use Rattle.sql_bind.specs.Query.{item_of, items_of}
use Rattle.sql_bind.proofs.ScopeKept.{at_most}

-- ---- what each used column has

pub all_map : {A B : Type 0} (f : A → B) (test : B → Bool) (xs : List A)
    → list_all test (map f xs) ≡ list_all (λ x. test (f x)) xs
all_map f test [] = refl
all_map f test (x ∷ xs) = rw (all_map f test xs) refl

module _ (wanted : List Column) (test : UsedColumn → Bool) where
  in_case : (u : UsedColumn) (rest : List UsedColumn) (b : Bool) → test u ≡ true → list_all test rest ≡ true
      → list_all test (cond b (u ∷ rest) rest) ≡ true
  in_case u rest true one all = and_from (test u) (list_all test rest) one all
  in_case u rest false one all = all

  pub each_in : (table place : ℕ) (infos : List ColumnInfo)
      → ((p : ℕ) → list_all (λ info. test (record { which = column table p; info = info })) infos ≡ true)
      → list_all test (used_in wanted table place infos) ≡ true
  each_in table place [] all = refl
  each_in table place (info ∷ infos) all =
      in_case (record { which = column table place; info = info }) (used_in wanted table (place + 1) infos)
      (is_among wanted (column table place))
      (and_parts (test (record { which = column table place; info = info }))
      (list_all (λ i. test (record { which = column table place; info = i })) infos) (all place)).0
      (each_in table (place + 1) infos (λ p. (and_parts (test (record { which = column table p; info = info }))
      (list_all (λ i. test (record { which = column table p; info = i })) infos) (all p)).1))

  -- what each column of the tables has, the used ones have
  pub each_used : (base : ℕ) (scope : List FromTable) (P : FromTable → Type 0)
      → ((table p : ℕ) (t : FromTable) → base ≤ table → table < base + length scope → P t
      → list_all (λ info. test (record { which = column table p; info = info })) t.info.columns ≡ true)
      → AllByRecursion P scope → list_all test (used_from wanted base scope) ≡ true
  each_used base [] P holds all = refl
  each_used base (t ∷ ts) P holds all =
      all_both test (used_in wanted base 0 t.info.columns) (used_from wanted (base + 1) ts)
      (each_in base 0 t.info.columns (λ p. holds base p t (omega arith) (omega arith) all.0))
      (each_used (base + 1) ts P (λ table p x from to is. holds table p x (omega arith) (omega arith) is) all.1)

abbrev pub IsFromCatalogue : FromTable → Type 0
IsFromCatalogue t = IsTable t.info

names_of_columns : (infos : List ColumnInfo) → AllByRecursion IsColumn infos
    → list_all (λ info. has_name_form info.name) infos ≡ true
names_of_columns [] all = refl
names_of_columns (info ∷ infos) all = and_from (has_name_form info.name) (list_all (λ i. has_name_form i.name) infos)
    (and_parts (has_name_form info.name) (nat_le (length info.name) 64) all.0.named).0 (names_of_columns infos all.1)

values_of_columns : (infos : List ColumnInfo) → AllByRecursion IsColumn infos
    → list_all (λ info. nat_le info.ndv 1000000000000) infos ≡ true
values_of_columns [] all = refl
values_of_columns (info ∷ infos) all = and_from (nat_le info.ndv 1000000000000)
    (list_all (λ i. nat_le i.ndv 1000000000000) infos) (at_most info.ndv 1000000000000 all.0.values)
    (values_of_columns infos all.1)

histograms_of_columns : (infos : List ColumnInfo) → AllByRecursion IsColumn infos
    → list_all (λ info. may_be_histogram info.histogram) infos ≡ true
histograms_of_columns [] all = refl
histograms_of_columns (info ∷ infos) all = and_from (may_be_histogram info.histogram)
    (list_all (λ i. may_be_histogram i.histogram) infos) all.0.histogram (histograms_of_columns infos all.1)

-- a test that doesn't look at the column
pub constantly : (b : Bool) (infos : List ColumnInfo) → b ≡ true → list_all (λ info. b) infos ≡ true
constantly b [] e = refl
constantly b (info ∷ infos) e = and_from b (list_all (λ i. b) infos) e (constantly b infos e)

under : (a b : ℕ) → a < b → nat_lt a b ≡ true
under a b lt = grind (arith, nat_tests)

module _ (wanted : List Column) (scope : List FromTable) (from : AllByRecursion IsFromCatalogue scope) where
  pub all_named : list_all (λ u. has_name_form u.info.name) (used_from wanted 0 scope) ≡ true
  all_named = each_used wanted (λ u. has_name_form u.info.name) 0 scope IsFromCatalogue
      (λ table p t low high is. names_of_columns t.info.columns
      (recursion_from_All IsColumn t.info.columns is.each_column)) from

  pub all_fit : list_all (λ u. nat_le u.info.ndv 1000000000000) (used_from wanted 0 scope) ≡ true
  all_fit = each_used wanted (λ u. nat_le u.info.ndv 1000000000000) 0 scope IsFromCatalogue
      (λ table p t low high is. values_of_columns t.info.columns
      (recursion_from_All IsColumn t.info.columns is.each_column)) from

  pub all_counted : list_all (λ u. may_be_histogram u.info.histogram) (used_from wanted 0 scope) ≡ true
  all_counted = each_used wanted (λ u. may_be_histogram u.info.histogram) 0 scope IsFromCatalogue
      (λ table p t low high is. histograms_of_columns t.info.columns
      (recursion_from_All IsColumn t.info.columns is.each_column)) from

  pub all_placed : list_all (λ u. nat_lt u.which.table (length scope)) (used_from wanted 0 scope) ≡ true
  all_placed = each_used wanted (λ u. nat_lt u.which.table (length scope)) 0 scope IsFromCatalogue
      (λ table p t low high is. constantly (nat_lt table (length scope)) t.info.columns
      (under table (length scope) (omega arith))) from

  pub all_low : length scope ≤ 10 → list_all (λ u. nat_le u.which.table 10) (used_from wanted 0 scope) ≡ true
  all_low few = each_used wanted (λ u. nat_le u.which.table 10) 0 scope IsFromCatalogue
      (λ table p t low high is. constantly (nat_le table 10) t.info.columns (at_most table 10 (omega arith))) from

-- what says nothing of a table holds of all
any_table : (scope : List FromTable) → AllByRecursion (λ t. ⊤) scope
any_table [] = tt
any_table (t ∷ ts) = (tt, any_table ts)

pub all_above : (wanted : List Column) (base : ℕ) (scope : List FromTable)
    → list_all (λ u. nat_le base u.which.table) (used_from wanted base scope) ≡ true
all_above wanted base scope = each_used wanted (λ u. nat_le base u.which.table) base scope (λ t. ⊤)
    (λ table p t low high is. constantly (nat_le base table) t.info.columns (at_most base table low)) (any_table scope)

-- ---- no column comes twice

apart_tables : (item : Item) (b : ℕ) (us : List UsedColumn) → item.table < b
    → list_all (λ u. nat_le b u.which.table) us ≡ true → list_any (same_column item) (items_of us) ≡ false
apart_tables item b [] low all = refl
apart_tables item b (u ∷ us) low all =
    let parts = and_parts (nat_le b u.which.table) (list_all (λ x. nat_le b x.which.table) us) all in
    let other : (item.table == u.which.table) ≡ false = grind (arith, nat_tests) in
    rw other (apart_tables item b us low parts.1)

no_name : (a : Bool) → ((a && false) || false) ≡ false
no_name true = refl
no_name false = refl

module _ (wanted : List Column) (table : ℕ) where
  fresh_case : (item : Item) (u : UsedColumn) (rest : List UsedColumn) (b : Bool)
      → bytes_eq item.name u.info.name ≡ false → list_any (same_column item) (items_of rest) ≡ false
      → list_any (same_column item) (items_of (cond b (u ∷ rest) rest)) ≡ false
  fresh_case item u rest true other all = rw (other, all) (no_name (item.table == u.which.table))
  fresh_case item u rest false other all = all

  fresh_in : (item : Item) (place : ℕ) (infos : List ColumnInfo)
      → list_any (bytes_eq item.name) (map (λ info. info.name) infos) ≡ false
      → list_any (same_column item) (items_of (used_in wanted table place infos)) ≡ false
  fresh_in item place [] fresh = refl
  fresh_in item place (info ∷ infos) fresh =
      let parts = or_parts (bytes_eq item.name info.name) (list_any (bytes_eq item.name) (map (λ i. i.name) infos))
      fresh in
      fresh_case item (record { which = column table place; info = info }) (used_in wanted table (place + 1) infos)
      (is_among wanted (column table place)) parts.0 (fresh_in item (place + 1) infos parts.1)

  apart_case : (u : UsedColumn) (rest : List UsedColumn) (b : Bool)
      → list_any (same_column (item_of u)) (items_of rest) ≡ false → all_differ same_column (items_of rest) ≡ true
      → all_differ same_column (items_of (cond b (u ∷ rest) rest)) ≡ true
  apart_case u rest true fresh all = rw (fresh, all) refl
  apart_case u rest false fresh all = all

  apart_in : (place : ℕ) (infos : List ColumnInfo) → all_differ bytes_eq (map (λ info. info.name) infos) ≡ true
      → all_differ same_column (items_of (used_in wanted table place infos)) ≡ true
  apart_in place [] differ = refl
  apart_in place (info ∷ infos) differ =
      let parts = and_parts (not (list_any (bytes_eq info.name) (map (λ i. i.name) infos)))
      (all_differ bytes_eq (map (λ i. i.name) infos)) differ in
      let u : UsedColumn = record { which = column table place; info = info } in
      apart_case u (used_in wanted table (place + 1) infos) (is_among wanted (column table place))
      (fresh_in (item_of u) (place + 1) infos (not-true _ parts.0)) (apart_in (place + 1) infos parts.1)

differ_both : {A : Type 0} (same : A → A → Bool) (xs ys : List A) → all_differ same xs ≡ true
    → all_differ same ys ≡ true → list_all (λ x. not (list_any (same x) ys)) xs ≡ true
    → all_differ same (xs ++ ys) ≡ true
differ_both same [] ys these those cross = those
differ_both same (x ∷ xs) ys these those cross =
    let parts = and_parts (not (list_any (same x) xs)) (all_differ same xs) these in
    let others = and_parts (not (list_any (same x) ys)) (list_all (λ z. not (list_any (same z) ys)) xs) cross in
    let fresh : list_any (same x) (xs ++ ys) ≡ false = list_any-append (same x) xs ys
    ∙ rw (not-true _ parts.0, not-true _ others.0) refl in
    rw fresh (differ_both same xs ys parts.1 those others.1)

cross_tables : (b : ℕ) (us vs : List UsedColumn) → list_all (λ u. nat_lt u.which.table b) us ≡ true
    → list_all (λ u. nat_le b u.which.table) vs ≡ true
    → list_all (λ item. not (list_any (same_column item) (items_of vs))) (items_of us) ≡ true
cross_tables b [] vs low high = refl
cross_tables b (u ∷ us) vs low high =
    let parts = and_parts (nat_lt u.which.table b) (list_all (λ x. nat_lt x.which.table b) us) low in
    let less : u.which.table < b = grind (arith, nat_tests) in
    let fresh : list_any (same_column (item_of u)) (items_of vs) ≡ false = apart_tables (item_of u) b vs less high in
    rw fresh (cross_tables b us vs parts.1 high)

next : (n : ℕ) → nat_lt n (n + 1) ≡ true
next n = grind (arith, nat_tests)

pub all_apart : (wanted : List Column) (base : ℕ) (scope : List FromTable) → AllByRecursion IsFromCatalogue scope
    → all_differ same_column (items_of (used_from wanted base scope)) ≡ true
all_apart wanted base [] from = refl
all_apart wanted base (t ∷ ts) from =
    let us = used_in wanted base 0 t.info.columns in
    let vs = used_from wanted (base + 1) ts in
    rw (map-append item_of us vs) (differ_both same_column (items_of us) (items_of vs)
    (apart_in wanted base 0 t.info.columns from.0.differ) (all_apart wanted (base + 1) ts from.1)
    (cross_tables (base + 1) us vs (each_in wanted (λ u. nat_lt u.which.table (base + 1)) base 0 t.info.columns
    (λ p. constantly (nat_lt base (base + 1)) t.info.columns (next base))) (all_above wanted (base + 1) ts)))
