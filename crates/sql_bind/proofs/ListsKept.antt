-- The distribution and the indexes of a query's tables are lists of used columns.
use Rattle.std.proofs.Common.{◌≡◌, ◌∙◌, ℕ, ◌+◌, ◌&&◌, ◌==◌, Bool, true, false, not, List, [], ◌∷◌, ◌++◌, length, nat_eq}
use Rattle.std.proofs.Common.{nat_le, nat_lt, option_to_list, refl, ap}
use Rattle.std.specs.List.{list_all, list_any, enumerate_from, AllByRecursion}
use Rattle.std.proofs.lemmas.List.{length-map}
use Rattle.std.proofs.lemmas.Bool.{eqb-true, eq-eqb, and_from, and_parts, not-true, or_parts}
use Rattle.std.proofs.lemmas.List.Elements.{recursion_from_All}
use Rattle.query_core.specs.Differ.{all_differ, numbers_differ}
use Rattle.query_core.specs.Histogram.{may_be_histogram}
use Rattle.query_core.specs.Items.{AreItems, has_own_lists, is_column_list, is_column_of}
use Rattle.query_core.specs.declared.catalog.Placing.{Placing}
use Rattle.query_core.specs.declared.catalog.Placing.TheVariants.{Hashed, Random, Replicated}
use Rattle.query_core.specs.Catalog.{IsColumnList, IsPlacing, IsTable}
use Rattle.sql_bind.specs.declared.columns.Column.{Column}
use Rattle.sql_bind.specs.Scope.{FromTable}
use Rattle.sql_bind.specs.Columns.{column, is_among}
use Rattle.sql_bind.specs.Used.{UsedColumn, indexed_by, listed_from, placed_by, places_of, used_from}
use Rattle.sql_bind.specs.Numbers.{column_number, numbers_of}
use Rattle.sql_bind.specs.Query.{hashed_of, indexes_of, item_of, items_of, table_of, tables_from}
use Rattle.sql_bind.proofs.Resolving.{has_column, here, later}
use Rattle.sql_bind.proofs.Found.{IsAt, found_from, of_table, one_number}
use Rattle.orca_base.specs.Name.{has_name_form}
use Rattle.sql_bind.proofs.ScopeKept.{as_many, at_most}
use Rattle.sql_bind.proofs.ItemsKept.{IsFromCatalogue, all_apart, all_counted, all_fit, all_map, all_named, all_placed}
use Rattle.sql_bind.proofs.Among.{among_first, among_later, among_left, among_right}
use Rattle.sql_bind.proofs.ListedThere.{known_own}

itself_same : (n : ℕ) → (n == n) ≡ true
itself_same n = eq-eqb n n refl

module _ (used : List UsedColumn) (table : ℕ) where
  -- all these places have their columns
  abbrev pub ArePlaced : List ℕ → Type 0
  ArePlaced places = (p : ℕ) → is_among (places_of table places) (column table p) ≡ true → IsAt used (column table p)

  in_table : (places : List ℕ) → ArePlaced places
      → list_all (is_column_of (items_of used) table) (numbers_of used table places) ≡ true
  in_table [] at = refl
  in_table (p ∷ ps) at =
      and_from (is_column_of (items_of used) table (column_number used (column table p)))
      (list_all (is_column_of (items_of used) table) (numbers_of used table ps))
      (of_table used (column table p) (at p (among_first (column table p) (places_of table ps))))
      (in_table ps (λ q among. at q (among_later (column table q) (column table p) (places_of table ps) among)))

  place_is : (p q : ℕ) → column table p ≡ column table q → p ≡ q
  place_is p q e = ap (λ (c : Column). c.place) e

  new_case : (p q : ℕ) (b : Bool) → (column_number used (column table p) == column_number used (column table q)) ≡ b
      → IsAt used (column table p) → IsAt used (column table q) → (q == p) ≡ false → b ≡ false
  new_case p q true is first second apart =
      let same : p ≡ q = place_is p q (one_number used (column table p) (column table q) first second
      (eqb-true (column_number used (column table p)) (column_number used (column table q)) is)) in
      absurd (let e : (q == p) ≡ true = rw same (itself_same q) in cc)
  new_case p q false is first second apart = refl

  new_number : (p : ℕ) (qs : List ℕ) → IsAt used (column table p) → ArePlaced qs → list_any (λ q. q == p) qs ≡ false
      → list_any (nat_eq (column_number used (column table p))) (numbers_of used table qs) ≡ false
  new_number p [] first at fresh = refl
  new_number p (q ∷ qs) first at fresh =
      let parts = or_parts (q == p) (list_any (λ x. x == p) qs) fresh in
      let other : nat_eq (column_number used (column table p)) (column_number used (column table q)) ≡ false =
      new_case p q (column_number used (column table p) == column_number used (column table q)) refl first
      (at q (among_first (column table q) (places_of table qs))) parts.0 in
      rw other (new_number p qs first (λ r among.
      at r (among_later (column table r) (column table q) (places_of table qs) among)) parts.1)

  numbers_apart : (places : List ℕ) → ArePlaced places → all_differ (λ p q. q == p) places ≡ true
      → numbers_differ (numbers_of used table places) ≡ true
  numbers_apart [] at differ = refl
  numbers_apart (p ∷ ps) at differ =
      let parts = and_parts (not (list_any (λ q. q == p) ps)) (all_differ (λ x y. y == x) ps) differ in
      let rest = λ (q : ℕ) (among : is_among (places_of table ps) (column table q) ≡ true).
      at q (among_later (column table q) (column table p) (places_of table ps) among) in
      let fresh : list_any (nat_eq (column_number used (column table p))) (numbers_of used table ps) ≡ false =
      new_number p ps (at p (among_first (column table p) (places_of table ps))) rest (not-true _ parts.0) in
      rw fresh (numbers_apart ps rest parts.1)

  -- a list of the catalogue is a list of items
  pub list_kept : (columns : ℕ) (places : List ℕ) → IsColumnList columns places → ArePlaced places
      → is_column_list (items_of used) table (numbers_of used table places) ≡ true
  list_kept columns places kept at =
      let counted : (nat_le 1 (length (numbers_of used table places)) && nat_le (length (numbers_of used table places))
      8) ≡ true = rw (length-map places (λ p. column_number used (column table p))) kept.counted in
      and_from (nat_le 1 (length (numbers_of used table places)) && nat_le (length (numbers_of used table places))
      8 && list_all (is_column_of (items_of used) table) (numbers_of used table places))
      (numbers_differ (numbers_of used table places))
      (and_from (nat_le 1 (length (numbers_of used table places)) && nat_le (length (numbers_of used table places)) 8)
      (list_all (is_column_of (items_of used) table) (numbers_of used table places)) counted (in_table places at))
      (numbers_apart places at kept.differ)

  -- all these columns are there
  abbrev pub AreFound : List Column → Type 0
  AreFound cs = (p : ℕ) → is_among cs (column table p) ≡ true → IsAt used (column table p)

  placing_kept : (columns : ℕ) (placing : Placing) → IsPlacing columns placing → AreFound (placed_by table placing)
      → list_all (is_column_list (items_of used) table) (option_to_list (hashed_of used table placing)) ≡ true
  placing_kept columns (Hashed places) kept at =
      and_from (is_column_list (items_of used) table (numbers_of used table places)) true
      (list_kept columns places kept at) refl
  placing_kept columns Random kept at = refl
  placing_kept columns Replicated kept at = refl

  indexes_kept : (columns : ℕ) (indexes : List (List ℕ)) → AllByRecursion (IsColumnList columns) indexes
      → AreFound (indexed_by table indexes) → list_all (is_column_list (items_of used) table)
      (indexes_of used table indexes) ≡ true
  indexes_kept columns [] kept at = refl
  indexes_kept columns (index ∷ indexes) kept at =
      and_from (is_column_list (items_of used) table (numbers_of used table index))
      (list_all (is_column_list (items_of used) table) (indexes_of used table indexes))
      (list_kept columns index kept.0 (λ p among.
      at p (among_left (places_of table index) (indexed_by table indexes) (column table p) among)))
      (indexes_kept columns indexes kept.1 (λ p among.
      at p (among_right (places_of table index) (indexed_by table indexes) (column table p) among)))

  -- the lists of a table
  pub own_kept : (t : FromTable) → IsTable t.info
      → AreFound (placed_by table t.info.placing ++ indexed_by table t.info.indexes)
      → has_own_lists (items_of used) table (table_of used table t) ≡ true
  own_kept t kept at =
      let columns = length t.info.columns in
      let hashed = hashed_of used table t.info.placing in
      let indexes = indexes_of used table t.info.indexes in
      let few : nat_le (length indexes) 16 ≡ true =
      rw (length-map t.info.indexes (numbers_of used table))
      (at_most (length t.info.indexes) 16 kept.index_count) in
      and_from (nat_le (length indexes) 16 && list_all (is_column_list (items_of used) table) (option_to_list hashed))
      (list_all (is_column_list (items_of used) table) indexes)
      (and_from (nat_le (length indexes) 16) (list_all (is_column_list (items_of used) table) (option_to_list hashed))
      few
      (placing_kept columns t.info.placing kept.placed
      (λ p among. at p (among_left (placed_by table t.info.placing) (indexed_by table t.info.indexes)
      (column table p) among))))
      (indexes_kept columns t.info.indexes (recursion_from_All (IsColumnList columns) t.info.indexes kept.each_index)
      (λ p among. at p (among_right (placed_by table t.info.placing) (indexed_by table t.info.indexes)
      (column table p) among)))

-- the lists of the tables
pub lists_from : (used : List UsedColumn) (base : ℕ) (scope : List FromTable)
    → ((c : Column) → is_among (listed_from base scope) c ≡ true → has_column base scope c ≡ true → IsAt used c)
    → AllByRecursion IsFromCatalogue scope → list_all (λ e. has_own_lists (items_of used) e.0 e.1)
    (enumerate_from base (tables_from used base scope)) ≡ true
lists_from used base [] at from = refl
lists_from used base (t ∷ ts) at from =
    let own = placed_by base t.info.placing ++ indexed_by base t.info.indexes in
    and_from (has_own_lists (items_of used) base (table_of used base t))
    (list_all (λ e. has_own_lists (items_of used) e.0 e.1)
    (enumerate_from (base + 1) (tables_from used (base + 1) ts)))
    (own_kept used base t from.0 (λ p among.
    at (column base p) (among_left own (listed_from (base + 1) ts) (column base p) among)
    (here base t ts p (known_own t base p from.0 among))))
    (lists_from used (base + 1) ts (λ c among there.
    at c (among_right own (listed_from (base + 1) ts) c among) (later base t ts c there)) from.1)

-- the used columns are items of the query
pub are_items : (wanted : List Column) (scope : List FromTable) → AllByRecursion IsFromCatalogue scope
    → ((c : Column) → is_among (listed_from 0 scope) c ≡ true → is_among wanted c ≡ true)
    → AreItems (tables_from (used_from wanted 0 scope) 0 scope) (items_of (used_from wanted 0 scope))
are_items wanted scope from listed =
    let used = used_from wanted 0 scope in
    record {
      placed = all_map item_of (λ item. nat_lt item.table (length (tables_from used 0 scope))) used
          ∙ rw (as_many used 0 scope) (all_placed wanted scope from);
      named = all_map item_of (λ item. has_name_form item.name) used ∙ all_named wanted scope from;
      apart = all_apart wanted 0 scope from;
      values_fit = all_map item_of (λ item. nat_le item.ndv 1000000000000) used ∙ all_fit wanted scope from;
      histograms = all_map item_of (λ item. may_be_histogram item.histogram) used ∙ all_counted wanted scope from;
      lists = lists_from used 0 scope (λ c among there.
          found_from wanted c.table c.place 0 scope there (listed c among)) from;
    }
