-- A column that a table of the scope lists is a column of that table.
use Rattle.std.proofs.Common.{◌≡◌, ℕ, ◌+◌, ◌==◌, inl, inr, true, List, [], ◌∷◌, ◌++◌, length, nat_lt, refl, sym, ap}
use Rattle.std.proofs.Common.{subst}
use Rattle.std.specs.List.{list_all, AllByRecursion}
use Rattle.std.proofs.lemmas.Bool.{eqb-true, eq-eqb, and_from, and_parts, or_cases}
use Rattle.std.proofs.lemmas.List.Elements.{recursion_from_All}
use Rattle.sql_bind.proofs.Truths.{all_both}
use Rattle.query_core.specs.declared.catalog.Placing.{Placing}
use Rattle.query_core.specs.declared.catalog.Placing.TheVariants.{Hashed, Random, Replicated}
use Rattle.query_core.specs.Catalog.{IsColumnList, IsPlacing, IsTable}
use Rattle.sql_bind.specs.declared.columns.Column.{Column}
use Rattle.sql_bind.specs.Scope.{FromTable}
use Rattle.sql_bind.specs.Columns.{column, is_among, is_same}
use Rattle.sql_bind.specs.Used.{indexed_by, listed_from, placed_by, places_of}
use Rattle.sql_bind.proofs.Resolving.{has_column, here, later}
use Rattle.sql_bind.proofs.Found.{there_is}
use Rattle.sql_bind.proofs.ItemsKept.{IsFromCatalogue}
use Rattle.sql_bind.proofs.Among.{either_list}

-- the place of a listed column is one of the table's
is_place : (p q n : ℕ) (table : ℕ) → is_same (column table p) (column table q) ≡ true → nat_lt q n ≡ true
    → nat_lt p n ≡ true
is_place p q n table e low = let same : p ≡ q = eqb-true p q (and_parts (table == table) (p == q) e).1 in rw same low

known_place : (table n p : ℕ) (places : List ℕ) → is_among (places_of table places) (column table p) ≡ true
    → list_all (λ q. nat_lt q n) places ≡ true → nat_lt p n ≡ true
known_place table n p [] among low = absurd cc
known_place table n p (q ∷ qs) among low =
    let parts = and_parts (nat_lt q n) (list_all (λ x. nat_lt x n) qs) low in
    elim (or_cases (is_same (column table p) (column table q)) (is_among (places_of table qs) (column table p)) among) [
      | inl same ↦ is_place p q n table same parts.0
      | inr rest ↦ known_place table n p qs rest parts.1
    ]

known_placed : (table n p : ℕ) (placing : Placing) → is_among (placed_by table placing) (column table p) ≡ true
    → IsPlacing n placing → nat_lt p n ≡ true
known_placed table n p (Hashed places) among kept = known_place table n p places among kept.known
known_placed table n p Random among kept = absurd cc
known_placed table n p Replicated among kept = absurd cc

known_indexed : (table n p : ℕ) (indexes : List (List ℕ)) → is_among (indexed_by table indexes) (column table p) ≡ true
    → AllByRecursion (IsColumnList n) indexes → nat_lt p n ≡ true
known_indexed table n p [] among kept = absurd cc
known_indexed table n p (index ∷ indexes) among kept =
    elim (either_list (places_of table index) (indexed_by table indexes) (column table p) among) [
      | inl first ↦ known_place table n p index first kept.0.known
      | inr rest ↦ known_indexed table n p indexes rest kept.1
    ]

pub known_own : (t : FromTable) (table p : ℕ) → IsTable t.info
    → is_among (placed_by table t.info.placing ++ indexed_by table t.info.indexes) (column table p) ≡ true
    → nat_lt p (length t.info.columns) ≡ true
known_own t table p kept among =
    elim (either_list (placed_by table t.info.placing) (indexed_by table t.info.indexes) (column table p) among) [
      | inl first ↦ known_placed table (length t.info.columns) p t.info.placing first kept.placed
      | inr rest ↦ known_indexed table (length t.info.columns) p t.info.indexes rest
          (recursion_from_All (IsColumnList (length t.info.columns)) t.info.indexes kept.each_index)
    ]

-- the columns that a table lists have its number
own_place : (table : ℕ) (places : List ℕ) → list_all (λ c. c.table == table) (places_of table places) ≡ true
own_place table [] = refl
own_place table (p ∷ ps) = and_from (table == table) (list_all (λ c. c.table == table) (places_of table ps))
    (eq-eqb table table refl) (own_place table ps)

own_placed : (table : ℕ) (placing : Placing) → list_all (λ c. c.table == table) (placed_by table placing) ≡ true
own_placed table (Hashed places) = own_place table places
own_placed table Random = refl
own_placed table Replicated = refl

own_indexed : (table : ℕ) (indexes : List (List ℕ)) → list_all (λ c. c.table == table) (indexed_by table indexes) ≡ true
own_indexed table [] = refl
own_indexed table (index ∷ indexes) = all_both (λ c. c.table == table) (places_of table index)
    (indexed_by table indexes) (own_place table index) (own_indexed table indexes)

-- a listed column is there
pub listed_there : (base : ℕ) (scope : List FromTable) (c : Column) → AllByRecursion IsFromCatalogue scope
    → is_among (listed_from base scope) c ≡ true → has_column base scope c ≡ true
listed_there base [] c from among = absurd cc
listed_there base (t ∷ ts) c from among =
    let own = placed_by base t.info.placing ++ indexed_by base t.info.indexes in
    elim (either_list own (listed_from (base + 1) ts) c among) [
      | inl first ↦
          let all_own = all_both (λ d. d.table == base) (placed_by base t.info.placing) (indexed_by base t.info.indexes)
          (own_placed base t.info.placing) (own_indexed base t.info.indexes) in
          let same : c.table ≡ base = eqb-true c.table base (there_is (λ d. d.table == base) own c all_own first) in
          let whole : c ≡ column base c.place = ap (λ table. column table c.place) same in
          subst (λ (d : Column). has_column base (t ∷ ts) d ≡ true) (sym whole)
          (here base t ts c.place (known_own t base c.place from.0
          (subst (λ (d : Column). is_among own d ≡ true) whole first)))
      | inr rest ↦ later base t ts c (listed_there (base + 1) ts c from.1 rest)
    ]
