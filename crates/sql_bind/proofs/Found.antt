-- A used column stands in the list of used columns at its number.
use Rattle.std.proofs.Common.{◌≡◌, ◌≢◌, ◌∙◌, inl, inr, ℕ, suc, ◌+◌, ◌≤◌, ◌<◌, ◌==◌, Bool, true, false, not, cond, List}
use Rattle.std.proofs.Common.{[], ◌∷◌, ◌++◌, length, nat_lt, slice_get, Option, Some, None, option_map, refl, sym, ap}
use Rattle.std.proofs.Common.{subst, arith}
use Rattle.std.specs.List.{list_all}
use Rattle.std.specs.Option.{option_map_or}
use Rattle.std.proofs.lemmas.Bool.{eqb-true, eq-eqb, and_from, and_parts, not-true, or_cases}
use Rattle.std.proofs.lemmas.Bool.Decides.{nat_tests, eqb_tells}
use Rattle.std.proofs.lemmas.Option.{slice_get-map, slice_get_within}
use Rattle.std.proofs.lemmas.List.{length-map}
use Rattle.query_core.specs.Items.{is_column_of}
use Rattle.query_core.specs.declared.catalog.ColumnInfo.{ColumnInfo}
use Rattle.sql_bind.specs.declared.columns.Column.{Column}
use Rattle.sql_bind.specs.Scope.{FromTable}
use Rattle.sql_bind.specs.Columns.{column, is_among, is_same}
use Rattle.sql_bind.specs.Used.{UsedColumn, used_from, used_in}
use Rattle.sql_bind.specs.Numbers.{column_number}
use Rattle.sql_bind.specs.Query.{item_of, items_of}
use Rattle.sql_bind.proofs.Resolving.{has_column}

abbrev pub column_at : List UsedColumn → ℕ → Option Column
column_at used number = option_map (λ u. u.which) (slice_get used number)

-- the column stands at its number
pub record IsAt (used : List UsedColumn) (c : Column) : Type 0 where
  pub here : column_at used (column_number used c) ≡ Some c

-- behind another column
pub behind : (u : UsedColumn) (us : List UsedColumn) (c : Column) → is_same u.which c ≡ false → IsAt us c
    → IsAt (u ∷ us) c
behind u us c other at = record { here = rw other at.here }

left_case : (u : UsedColumn) (us vs : List UsedColumn) (c : Column) (b : Bool)
    → column_at (u ∷ us) (cond b 0 (suc (column_number us c))) ≡ Some c
    → (column_at us (column_number us c) ≡ Some c → column_at (us ++ vs) (column_number (us ++ vs) c) ≡ Some c)
    → column_at (u ∷ (us ++ vs)) (cond b 0 (suc (column_number (us ++ vs) c))) ≡ Some c
left_case u us vs c true e rest = e
left_case u us vs c false e rest = rest e

at_left : (us vs : List UsedColumn) (c : Column) → column_at us (column_number us c) ≡ Some c
    → column_at (us ++ vs) (column_number (us ++ vs) c) ≡ Some c
at_left [] vs c e = absurd cc
at_left (u ∷ us) vs c e = left_case u us vs c (is_same u.which c) e (at_left us vs c)

-- with more columns after it
pub before_more : (us vs : List UsedColumn) (c : Column) → IsAt us c → IsAt (us ++ vs) c
before_more us vs c at = record { here = at_left us vs c at.here }

-- behind columns that are all others
pub behind_all : (us vs : List UsedColumn) (c : Column) → list_all (λ u. not (is_same u.which c)) us ≡ true → IsAt vs c
    → IsAt (us ++ vs) c
behind_all [] vs c others at = at
behind_all (u ∷ us) vs c others at =
    let parts = and_parts (not (is_same u.which c)) (list_all (λ u. not (is_same u.which c)) us) others in
    behind u (us ++ vs) c (not-true (is_same u.which c) parts.0) (behind_all us vs c parts.1 at)

pub same_is : (c d : Column) → is_same c d ≡ true → c ≡ d
same_is c d e =
    let parts = and_parts (c.table == d.table) (c.place == d.place) e in
    let tables : c.table ≡ d.table = eqb-true c.table d.table parts.0 in
    let places : c.place ≡ d.place = eqb-true c.place d.place parts.1 in
    ap (λ t. column t c.place) tables ∙ ap (λ p. column d.table p) places

pub is_itself : (c : Column) → is_same c c ≡ true
is_itself c = and_from (c.table == c.table) (c.place == c.place) (eq-eqb c.table c.table refl)
    (eq-eqb c.place c.place refl)

-- what all pass, one of them passes
pub there_is : (test : Column → Bool) (cs : List Column) (c : Column) → list_all test cs ≡ true → is_among cs c ≡ true
    → test c ≡ true
there_is test [] c all among = absurd cc
there_is test (d ∷ ds) c all among =
    let parts = and_parts (test d) (list_all test ds) all in
    elim (or_cases (is_same c d) (is_among ds c) among) [
      | inl same ↦ rw (same_is c d same) parts.0
      | inr later ↦ there_is test ds c parts.1 later
    ]

module _ (wanted : List Column) (table : ℕ) where
  skip_case : (info : ColumnInfo) (place : ℕ) (rest : List UsedColumn) (c : Column) (b : Bool)
      → is_same (column table place) c ≡ false → IsAt rest c
      → IsAt (cond b (record { which = column table place; info = info } ∷ rest) rest) c
  skip_case info place rest c true other at =
      behind (record { which = column table place; info = info }) rest c other at
  skip_case info place rest c false other at = at

  at_place : (info : ColumnInfo) (rest : List UsedColumn) (c : Column)
      → IsAt (record { which = c; info = info } ∷ rest) c
  at_place info rest c = record { here = rw (is_itself c) refl }

  other_place : (p q : ℕ) → p ≢ q → is_same (column table p) (column table q) ≡ false
  other_place p q apart = grind (arith, nat_tests)

  -- a wanted column of the table
  pub found_in : (place : ℕ) (infos : List ColumnInfo) (q : ℕ) → place ≤ q → q < place + length infos
      → is_among wanted (column table q) ≡ true
      → IsAt (used_in wanted table place infos) (column table q)
  found_in place [] q from to among = absurd (omega arith)
  found_in place (info ∷ infos) q from to among =
      elim (eqb_tells place q) [
        | inl same ↦ subst (λ (p : ℕ). IsAt (cond (is_among wanted (column table p))
            (record { which = column table p; info = info } ∷ used_in wanted table (p + 1) infos)
            (used_in wanted table (p + 1) infos)) (column table q)) (sym same.1)
            (rw among (at_place info (used_in wanted table (q + 1) infos) (column table q)))
        | inr apart ↦ skip_case info place (used_in wanted table (place + 1) infos) (column table q)
            (is_among wanted (column table place)) (other_place place q apart.1)
            (found_in (place + 1) infos q (omega (arith, apart.1)) (omega arith) among)
      ]

  none_case : (info : ColumnInfo) (place : ℕ) (rest : List UsedColumn) (c : Column) (b : Bool)
      → (table == c.table) ≡ false → list_all (λ u. not (is_same u.which c)) rest ≡ true
      → list_all (λ u. not (is_same u.which c))
      (cond b (record { which = column table place; info = info } ∷ rest) rest) ≡ true
  none_case info place rest c true other all = rw other all
  none_case info place rest c false other all = all

  -- a column of another table is none of this one's
  pub none_in : (place : ℕ) (infos : List ColumnInfo) (c : Column) → (table == c.table) ≡ false
      → list_all (λ u. not (is_same u.which c)) (used_in wanted table place infos) ≡ true
  none_in place [] c other = refl
  none_in place (info ∷ infos) c other = none_case info place (used_in wanted table (place + 1) infos) c
      (is_among wanted (column table place)) other (none_in (place + 1) infos c other)

turned : (a b : ℕ) → (a == b) ≡ false → (b == a) ≡ false
turned a b e = grind (arith, nat_tests)

module _ (wanted : List Column) (table place : ℕ) where
  from_tables : (base : ℕ) (t : FromTable) (ts : List FromTable) (b : Bool) → (table == base) ≡ b
      → cond b (nat_lt place (length t.info.columns)) (has_column (base + 1) ts (column table place)) ≡ true
      → is_among wanted (column table place) ≡ true
      → (has_column (base + 1) ts (column table place) ≡ true
      → IsAt (used_from wanted (base + 1) ts) (column table place))
      → IsAt (used_in wanted base 0 t.info.columns ++ used_from wanted (base + 1) ts) (column table place)
  from_tables base t ts true is there among rest =
      let same : table ≡ base = eqb-true table base is in
      subst (λ (b : ℕ). IsAt (used_in wanted b 0 t.info.columns ++ used_from wanted (base + 1) ts) (column table place))
      same
      (before_more (used_in wanted table 0 t.info.columns) (used_from wanted (base + 1) ts) (column table place)
      (found_in wanted table 0 t.info.columns place (omega arith) (grind (arith, nat_tests)) among))
  from_tables base t ts false is there among rest =
      behind_all (used_in wanted base 0 t.info.columns) (used_from wanted (base + 1) ts) (column table place)
      (none_in wanted base 0 t.info.columns (column table place) (turned table base is)) (rest there)

  -- a wanted column of one of the tables
  pub found_from : (base : ℕ) (ts : List FromTable) → has_column base ts (column table place) ≡ true
      → is_among wanted (column table place) ≡ true → IsAt (used_from wanted base ts) (column table place)
  found_from base [] there among = absurd cc
  found_from base (t ∷ ts) there among = from_tables base t ts (table == base) refl there among
      (λ later. found_from (base + 1) ts later among)

-- ---- what stands at a number

pub below : (a b : ℕ) → a < b → nat_lt a b ≡ true
below a b lt = grind (arith, nat_tests)

module _ (used : List UsedColumn) where
  table_case : (c : Column) (n : ℕ) (found : Option UsedColumn) → option_map (λ u. u.which) found ≡ Some c
      → option_map_or (λ item. item.table == c.table) (option_map item_of found) false ≡ true
  table_case c n None e = absurd cc
  table_case c n (Some u) e = let same : u.which ≡ c = cc in rw same (eq-eqb c.table c.table refl)

  -- it is an item of the column's table
  pub of_table : (c : Column) → IsAt used c → is_column_of (items_of used) c.table (column_number used c) ≡ true
  of_table c at = rw (slice_get-map item_of used (column_number used c))
      (table_case c (column_number used c) (slice_get used (column_number used c)) at.here)

  within_case : (c : Column) (n : ℕ) (found : Option UsedColumn) → slice_get used n ≡ found
      → option_map (λ u. u.which) found ≡ Some c → n < length used
  within_case c n None is e = absurd cc
  within_case c n (Some u) is e = slice_get_within used n u is

  pub within : (c : Column) → IsAt used c → nat_lt (column_number used c) (length (items_of used)) ≡ true
  within c at = rw (length-map used item_of)
      (below (column_number used c) (length used)
      (within_case c (column_number used c) (slice_get used (column_number used c)) refl
      at.here))

  -- different columns have different numbers
  pub one_number : (c d : Column) → IsAt used c → IsAt used d → column_number used c ≡ column_number used d → c ≡ d
  one_number c d first second same = let joined : Some c ≡ Some d = sym first.here
      ∙ (ap (column_at used) same ∙ second.here) in cc
