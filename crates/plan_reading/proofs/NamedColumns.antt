-- The hashed lists that a query has are of its columns, and its orders of columns and of aggregates with names.
use Rattle.std.proofs.Common.{◌≡◌, ℕ, zero, suc, ◌+◌, ◌*◌, ◌-◌, ◌/◌, ◌<◌, Bool, true, false, List, [], ◌∷◌, ◌++◌}
use Rattle.std.proofs.Common.{length, map, Option, Some, None, refl, subst, arith, inl, inr, IsTrue}
use Rattle.std.specs.Prelude.{slice_get, nat_lt, ◌&&◌, if◌then◌else◌, is_some, filter_map, flat_map}
use Rattle.std.specs.List.{All, list_all, cons_option}
use Rattle.std.specs.Option.{option_map_or}
use Rattle.std.proofs.lemmas.Bool.{and_parts, or_cases, ltb-true}
use Rattle.std.proofs.lemmas.List.Elements.{All-nil, All-cons, All-head, All-tail, All-append}
use Rattle.query_core.specs.Conditions.{is_operand}
use Rattle.query_core.specs.Items.{is_column_of}
use Rattle.query_core.specs.Results.{is_named}
use Rattle.query_core.specs.declared.aggregate.Agg.{Agg}
use Rattle.query_core.specs.declared.output.OrderKey.{OrderKey}
use Rattle.query_core.specs.declared.predicate.CmpOp.{CmpOp}
use Rattle.query_core.specs.declared.predicate.CmpOp.TheVariants as comparisons
use Rattle.query_core.specs.declared.predicate.Operand.{Operand}
use Rattle.query_core.specs.declared.predicate.Operand.TheVariants as operands
use Rattle.query_core.specs.declared.predicate.Pred.{Pred}
use Rattle.query_core.specs.declared.query.Query.{Query}
use Rattle.query_core.specs.declared.table.Item.{Item}
use Rattle.query_core.specs.declared.table.QueryTable.{QueryTable}
use Rattle.request_props.specs.Found.{is_across, sides_across, sides_by, sides_of, ascending, joined_columns, one_each}
use Rattle.request_props.specs.Found.{unless_empty, table_lists, found_lists, found_orders, wanted_order, grouped_order}
use Rattle.request_props.specs.Found.{element_of, elements_of}
use Rattle.plan_space.proofs.TableColumns.{hashed_columns}
use Rattle.plan_reading.proofs.Places.{there}
use Rattle.plan_reading.proofs.Sorted.{IsSorted, column, aggregate}
use Rattle.plan_reading.proofs.Joined.{Each}
use Rattle.plan_reading.proofs.Elements.{IsColumn, IsElement}

-- numbers below a bound
each_below : (bound : ℕ) (xs : List ℕ) → list_all (λ number. nat_lt number bound) xs ≡ true → Each (λ n. n < bound) xs
each_below bound [] all = tt
each_below bound (x ∷ xs) all =
    let parts = and_parts (nat_lt x bound) (list_all (λ number. nat_lt number bound) xs) all in
    (ltb-true x bound parts.0, each_below bound xs parts.1)

each_append : (Fact : ℕ → Type 0) (xs ys : List ℕ) → Each Fact xs → Each Fact ys → Each Fact (xs ++ ys)
each_append Fact [] ys in_xs in_ys = in_ys
each_append Fact (x ∷ xs) ys in_xs in_ys = (in_xs.0, each_append Fact xs ys in_xs.1 in_ys)

each_as : (Fact Other : ℕ → Type 0) (f : ℕ → ℕ) → ((n : ℕ) → Fact n → Other (f n)) → (xs : List ℕ) → Each Fact xs
    → Each Other (map f xs)
each_as Fact Other f goes [] all = tt
each_as Fact Other f goes (x ∷ xs) all = (goes x all.0, each_as Fact Other f goes xs all.1)

-- lists of one
each_alone : (Fact : ℕ → Type 0) (xs : List ℕ) → Each Fact xs → All (Each Fact) (one_each xs)
each_alone Fact [] all = All-nil (Each Fact)
each_alone Fact (x ∷ xs) all = All-cons (Each Fact) (x ∷ []) (one_each xs) (all.0, tt) (each_alone Fact xs all.1)

each_unless : (Fact : ℕ → Type 0) (xs : List ℕ) → Each Fact xs → All (Each Fact) (unless_empty xs)
each_unless Fact [] all = All-nil (Each Fact)
each_unless Fact (x ∷ xs) all = All-cons (Each Fact) (x ∷ xs) [] all (All-nil (Each Fact))

all_cons : {Y : Type 0} (Fact : Y → Type 0) (o : Option Y) (rest : List Y) → ((y : Y) → o ≡ Some y → Fact y)
    → All Fact rest → All Fact (cons_option o rest)
all_cons Fact None rest here all = all
all_cons Fact (Some y) rest here all = All-cons Fact y rest (here y refl) all

-- what h makes of some elements
all_mapped : {X Y : Type 0} (Fact : Y → Type 0) (h : X → Option Y) (xs : List X)
    → ((k : ℕ) (x : X) (y : Y) → slice_get xs k ≡ Some x → h x ≡ Some y → Fact y) → All Fact (filter_map h xs)
all_mapped Fact h [] each = All-nil Fact
all_mapped Fact h (x ∷ xs) each =
    all_cons Fact (h x) (filter_map h xs) (λ y is. each 0 x y refl is) (all_mapped Fact h xs (λ k z y got. each (suc k) z y got))

column_below : (items : List Item) (t n : ℕ) → IsTrue (is_column_of items t n) → n < length items
column_below [] t n is = absurd cc
column_below (x ∷ items) t zero is = omega arith
column_below (x ∷ items) t (suc n) is = let rest = column_below items t n is in omega arith

-- the sides of a predicate over items are items
module _ (bound : ℕ) where
  abbrev AreBelow : List ℕ → Type 0
  AreBelow xs = Each (λ n. n < bound) xs

  between_below : (left right : ℕ) (across : Bool) → left < bound → right < bound
      → AreBelow (if across then left ∷ right ∷ [] else [])
  between_below left right true first second = (first, (second, tt))
  between_below left right false first second = tt

module _ (items : List Item) where
  across_below : (left : ℕ) (right : Operand) → left < length items → IsTrue (is_operand items right)
      → Each (λ n. n < length items) (sides_across items left right)
  across_below left (operands.Item right) first second =
      between_below (length items) left right (is_across items left right) first (ltb-true right (length items) second)
  across_below left (operands.Int value) first second = tt
  across_below left (operands.Str text) first second = tt

  sides_below : (left : ℕ) (op : CmpOp) (right : Operand) → left < length items → IsTrue (is_operand items right)
      → Each (λ n. n < length items) (sides_by items left op right)
  sides_below left comparisons.Eq right first second = across_below left right first second
  sides_below left comparisons.Ne right first second = tt
  sides_below left comparisons.Lt right first second = tt
  sides_below left comparisons.Le right first second = tt
  sides_below left comparisons.Gt right first second = tt
  sides_below left comparisons.Ge right first second = tt

  all_sides_below : (preds : List Pred)
      → IsTrue (list_all (λ pred. nat_lt pred.left (length items) && is_operand items pred.right) preds)
      → Each (λ n. n < length items) (flat_map (sides_of items) preds)
  all_sides_below [] all = tt
  all_sides_below (pred ∷ preds) all =
      let first = and_parts _ _ (and_parts _ _ all).0 in
      each_append (λ n. n < length items) (sides_of items pred) (flat_map (sides_of items) preds)
      (sides_below pred.left pred.op pred.right (ltb-true pred.left (length items) first.0) first.1)
      (all_sides_below preds (and_parts _ _ all).1)

module _ (q : Query) where
  joined_below : Each (IsColumn q) (joined_columns q)
  joined_below = all_sides_below q.items q.preds q.preds_valid.over_items

  grouped_below : Each (IsColumn q) q.group_by
  grouped_below = each_below (length q.items) q.group_by q.grouping_valid.columns

  tables_below : All (Each (IsColumn q)) (table_lists q)
  tables_below = all_mapped (Each (IsColumn q)) (λ (t : QueryTable). t.hashed) q.tables
      (λ k table list got hashed. each_as_columns k list (hashed_columns q k table list got hashed))
    where
      each_as_columns : (t : ℕ) (list : List ℕ) → All (λ i. IsTrue (is_column_of q.items t i)) list → Each (IsColumn q) list
      each_as_columns t [] all = tt
      each_as_columns t (x ∷ xs) all = (
        column_below q.items t x (All-head (λ i. IsTrue (is_column_of q.items t i)) x xs all),
        each_as_columns t xs (All-tail (λ i. IsTrue (is_column_of q.items t i)) x xs all),
      )

  -- so each of a hashed list is a column
  pub found_columns : All (Each (IsColumn q)) (found_lists q)
  found_columns = All-append (Each (IsColumn q)) (table_lists q ++ one_each (joined_columns q)) (unless_empty q.group_by)
      (All-append (Each (IsColumn q)) (table_lists q) (one_each (joined_columns q)) tables_below
      (each_alone (IsColumn q) (joined_columns q) joined_below))
      (each_unless (IsColumn q) q.group_by grouped_below)

  -- ---- orders

  column_sorted : (n : ℕ) → IsColumn q n → IsSorted q n
  column_sorted n below = let found = there q.items n below in column found.0 found.1

  ascending_element : (n : ℕ) → IsColumn q n → IsElement q (2 * n)
  ascending_element n below = let half : n ≡ (2 * n) / 2 = omega arith in
      subst (λ m. IsSorted q m) half (column_sorted n below)

  named_sorted : (n : ℕ) → IsTrue (is_named q.items q.aggs n) → IsSorted q n
  named_sorted n is = elim (or_cases _ _ is) [
    | inl below ↦ column_sorted n (ltb-true n (length q.items) below)
    | inr named ↦ by_agg (slice_get q.aggs (n - length q.items)) refl named
  ]
    where
      by_name : (agg : Agg) (o : Option (List ℕ)) → agg.name ≡ o → is_some o ≡ true
          → slice_get q.aggs (n - length q.items) ≡ Some agg → slice_get q.items n ≡ None → IsSorted q n
      by_name agg None e some got none = absurd cc
      by_name agg (Some name) e some got none = aggregate agg name none got e

      by_item : (agg : Agg) → is_some agg.name ≡ true → slice_get q.aggs (n - length q.items) ≡ Some agg
          → (o : Option Item) → slice_get q.items n ≡ o → IsSorted q n
      by_item agg some got (Some item) is = column item is
      by_item agg some got None is = by_name agg agg.name refl some got is

      by_agg : (o : Option Agg) → slice_get q.aggs (n - length q.items) ≡ o
          → option_map_or (λ agg. is_some agg.name) o false ≡ true → IsSorted q n
      by_agg None is named = absurd cc
      by_agg (Some agg) is named = by_item agg named is (slice_get q.items n) refl

  key_element : (key : OrderKey) → IsTrue (is_named q.items q.aggs key.item) → IsElement q (element_of key)
  key_element key is = by_desc key.desc refl
    where
      by_desc : (b : Bool) → key.desc ≡ b → IsSorted q ((2 * key.item + (if b then 1 else 0)) / 2)
      by_desc true e = let half : key.item ≡ (2 * key.item + 1) / 2 = omega arith in subst (λ m. IsSorted q m) half (named_sorted key.item is)
      by_desc false e = let half : key.item ≡ (2 * key.item + 0) / 2 = omega arith in subst (λ m. IsSorted q m) half (named_sorted key.item is)

  keys_elements : (keys : List OrderKey) → list_all (λ key. is_named q.items q.aggs key.item) keys ≡ true
      → Each (IsElement q) (elements_of keys)
  keys_elements [] all = tt
  keys_elements (key ∷ keys) all =
      let parts = and_parts (is_named q.items q.aggs key.item) (list_all (λ key. is_named q.items q.aggs key.item) keys) all in
      (key_element key parts.0, keys_elements keys parts.1)

  pub found_elements : All (Each (IsElement q)) (found_orders q)
  found_elements = All-append (Each (IsElement q)) (unless_empty (wanted_order q) ++ one_each (ascending (joined_columns q)))
      (unless_empty (grouped_order q))
      (All-append (Each (IsElement q)) (unless_empty (wanted_order q)) (one_each (ascending (joined_columns q)))
      (each_unless (IsElement q) (wanted_order q) (keys_elements q.order q.order_valid.named))
      (each_alone (IsElement q) (ascending (joined_columns q))
      (each_as (IsColumn q) (IsElement q) (λ n. 2 * n) ascending_element (joined_columns q) joined_below)))
      (each_unless (IsElement q) (grouped_order q)
      (each_as (IsColumn q) (IsElement q) (λ n. 2 * n) ascending_element q.group_by grouped_below))
