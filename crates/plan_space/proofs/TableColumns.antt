-- The lists of a table are lists of its columns.
use Rattle.std.proofs.Common.{◌≡◌, ℕ, zero, suc, ◌+◌, Bool, List, [], ◌∷◌, subst, arith}
use Rattle.std.proofs.Common.{IsTrue, slice_index_or}
use Rattle.std.specs.Prelude.{Some, None, All, slice_get, option_to_list}
use Rattle.std.specs.List.{list_all, enumerate_from}
use Rattle.std.proofs.lemmas.Bool.{and_parts}
use Rattle.std.proofs.lemmas.List.Elements.{All-nil, All-cons}
use Rattle.query_core.specs.Items.{is_column_of, is_column_list, has_own_lists}
use Rattle.query_core.specs.declared.table.Item.{Item}
use Rattle.query_core.specs.declared.table.QueryTable.{QueryTable}
use Rattle.query_core.specs.declared.query.Query.{Query}

-- the lists of a table are lists of its columns
own_lists : (items : List Item) (place : ℕ) (tables : List QueryTable) (t at : ℕ) (table : QueryTable) → place + t ≡ at
    → IsTrue (list_all (λ p. has_own_lists items p.0 p.1) (enumerate_from place tables))
    → slice_get tables t ≡ Some table
    → IsTrue (has_own_lists items at table)
own_lists items place [] t at table sum all got = let never : None ≡ Some table = got in cc
own_lists items place (first ∷ tables) zero at table sum all got =
    let same : first ≡ table = cc in
    let here : place ≡ at = omega (arith, sum) in
    subst (λ x. IsTrue (has_own_lists items at x)) same
    (subst (λ n. IsTrue (has_own_lists items n first)) here (and_parts _ _ all).0)
own_lists items place (first ∷ tables) (suc t) at table sum all got =
    own_lists items (place + 1) tables t at table (omega (arith, sum)) (and_parts _ _ all).1 got

-- each number of a list that passes is that of a column
all_columns : (p : ℕ → Bool) (numbers : List ℕ) → IsTrue (list_all p numbers) → All (λ i. IsTrue (p i)) numbers
all_columns p [] all = All-nil (λ i. IsTrue (p i))
all_columns p (first ∷ numbers) all =
    let (here, later) = and_parts (p first) (list_all p numbers) all in
    All-cons (λ i. IsTrue (p i)) first numbers here (all_columns p numbers later)

column_list_columns : (items : List Item) (t : ℕ) (list : List ℕ) → IsTrue (is_column_list items t list)
    → All (λ i. IsTrue (is_column_of items t i)) list
column_list_columns items t list is = all_columns (is_column_of items t) list (and_parts _ _ (and_parts _ _ is).0).1

-- the list at a place, or the empty one, is one of columns
columns_at : (items : List Item) (t : ℕ) (lists : List (List ℕ)) (index : ℕ)
    → IsTrue (list_all (is_column_list items t) lists)
    → All (λ i. IsTrue (is_column_of items t i)) (slice_index_or lists index [])
columns_at items t [] index all = All-nil (λ i. IsTrue (is_column_of items t i))
columns_at items t (first ∷ lists) zero all = column_list_columns items t first (and_parts _ _ all).0
columns_at items t (first ∷ lists) (suc index) all = columns_at items t lists index (and_parts _ _ all).1

module _ (q : Query) (t : ℕ) where
  table_lists_own : (table : QueryTable) → slice_get q.tables t ≡ Some table → IsTrue (has_own_lists q.items t table)
  table_lists_own table got = own_lists q.items 0 q.tables t t table (omega arith) q.items_valid.lists got

  -- the hashed list of a table is one of its columns
  pub hashed_columns : (table : QueryTable) (list : List ℕ) → slice_get q.tables t ≡ Some table
      → table.hashed ≡ Some list
      → All (λ i. IsTrue (is_column_of q.items t i)) list
  hashed_columns table list got hashed =
      let own : IsTrue (list_all (is_column_list q.items t) (option_to_list table.hashed)) =
      (and_parts _ _ (and_parts _ _ (table_lists_own table got)).0).1 in
      let one : IsTrue (list_all (is_column_list q.items t) (list ∷ [])) =
      subst (λ o. IsTrue (list_all (is_column_list q.items t) (option_to_list o))) hashed own in
      column_list_columns q.items t list (and_parts _ _ one).0

  -- and so are its indexes
  pub index_of_columns : (table : QueryTable) (index : ℕ) → slice_get q.tables t ≡ Some table
      → All (λ i. IsTrue (is_column_of q.items t i)) (slice_index_or table.indexes index [])
  index_of_columns table index got = columns_at q.items t table.indexes index
      (and_parts _ _ (table_lists_own table got)).1
