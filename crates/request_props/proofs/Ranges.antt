-- The numbers in a query's lists and orders are those of few items, and a query has few lists and orders.
use Rattle.std.proofs.Common.{ℕ, zero, suc, ◌+◌, ◌*◌, ◌<◌, ◌≤◌, Bool, true, false, List, [], ◌∷◌, ◌++◌, length, Option}
use Rattle.std.proofs.Common.{Some, None, inl, inr, refl, arith, IsTrue}
use Rattle.std.specs.Prelude.{nat_lt, nat_le, ◌&&◌, ◌==◌, flat_map, filter_map, if◌then◌else◌}
use Rattle.std.specs.List.{All, list_all, list_any, cons_option}
use Rattle.std.proofs.lemmas.Bool.{ltb-true, eqb-true, and_parts, and_from, or_cases}
use Rattle.std.proofs.lemmas.List.{length-map, length-append}
use Rattle.std.proofs.lemmas.List.Folds.{list_all-append}
use Rattle.query_core.specs.declared.query.Query.{Query}
use Rattle.query_core.specs.declared.table.Item.{Item}
use Rattle.query_core.specs.declared.aggregate.Agg.{Agg}
use Rattle.query_core.specs.declared.output.OrderKey.{OrderKey}
use Rattle.query_core.specs.declared.predicate.Pred.{Pred}
use Rattle.query_core.specs.declared.predicate.Operand as operands
use Rattle.query_core.specs.declared.predicate.Operand.{Operand}
use Rattle.query_core.specs.declared.predicate.CmpOp as comparisons
use Rattle.query_core.specs.declared.predicate.CmpOp.{CmpOp}
use Rattle.query_core.specs.Conditions.{is_operand}
use Rattle.query_core.specs.Results.{is_root_item}
use Rattle.request_props.specs.Found.{ascending, wanted_order, is_across, sides_across, sides_by, sides_of}
use Rattle.request_props.specs.Found.{joined_columns, one_each, unless_empty, table_lists, found_lists, found_orders}

-- each number is below a bound
abbrev pub are_below : ℕ → List ℕ → Bool
are_below bound numbers = list_all (λ number. nat_lt number bound) numbers

-- numbers below a bound of at most 60 are below 60
pub below_60 : (bound : ℕ) (numbers : List ℕ) → bound ≤ 60 → IsTrue (are_below bound numbers)
    → All (λ number. number < 60) numbers
below_60 bound [] few all k d within = absurd (omega (arith, within))
below_60 bound (number ∷ numbers) few all zero d within =
    let below = ltb-true number bound (and_parts _ _ all).0 in omega (arith, below, few)
below_60 bound (number ∷ numbers) few all (suc k) d within =
    below_60 bound numbers few (and_parts _ _ all).1 k d (omega (arith, within))

-- the sides of a predicate over items are items
between_below : (bound left right : ℕ) (across : Bool) → IsTrue (nat_lt left bound) → IsTrue (nat_lt right bound)
    → IsTrue (are_below bound (if across then left ∷ right ∷ [] else []))
between_below bound left right true first second = and_from _ _ first (and_from _ _ second refl)
between_below bound left right false first second = refl

across_below : (items : List Item) (left : ℕ) (right : Operand) → IsTrue (nat_lt left (length items))
    → IsTrue (is_operand items right)
    → IsTrue (are_below (length items) (sides_across items left right))
across_below items left (operands.TheVariants.Item right) first second =
    between_below (length items) left right (is_across items left right) first second
across_below items left (operands.TheVariants.Int value) first second = refl
across_below items left (operands.TheVariants.Str text) first second = refl

sides_below : (items : List Item) (left : ℕ) (op : CmpOp) (right : Operand) → IsTrue (nat_lt left (length items))
    → IsTrue (is_operand items right)
    → IsTrue (are_below (length items) (sides_by items left op right))
sides_below items left comparisons.TheVariants.Eq right first second = across_below items left right first second
sides_below items left comparisons.TheVariants.Ne right first second = refl
sides_below items left comparisons.TheVariants.Lt right first second = refl
sides_below items left comparisons.TheVariants.Le right first second = refl
sides_below items left comparisons.TheVariants.Gt right first second = refl
sides_below items left comparisons.TheVariants.Ge right first second = refl

all_sides_below : (items : List Item) (preds : List Pred)
    → IsTrue (list_all (λ pred. nat_lt pred.left (length items) && is_operand items pred.right) preds)
    → IsTrue (are_below (length items) (flat_map (sides_of items) preds))
all_sides_below items [] all = refl
all_sides_below items (pred ∷ preds) all =
    let first = and_parts _ _ (and_parts _ _ all).0 in
    let here = sides_below items pred.left pred.op pred.right first.0 first.1 in
    let later = all_sides_below items preds (and_parts _ _ all).1 in
    rw (list_all-append (λ number. nat_lt number (length items)) (sides_of items pred)
    (flat_map (sides_of items) preds)) (and_from _ _ here later)

-- a query has few items
pub items_few : (q : Query) → length q.items ≤ 60
items_few q = let fit = q.grouping_valid.items_fit in omega arith

-- joined columns are items
pub joined_few : (q : Query) → All (λ column. column < 60) (joined_columns q)
joined_few q = below_60 (length q.items) (joined_columns q) (items_few q)
    (all_sides_below q.items q.preds q.preds_valid.over_items)

-- GROUP BY columns are items
pub grouped_few : (q : Query) → All (λ column. column < 60) q.group_by
grouped_few q = below_60 (length q.items) q.group_by (items_few q) q.grouping_valid.columns

-- a number among those below a bound is below it
any_below : (bound number : ℕ) (numbers : List ℕ) → IsTrue (are_below bound numbers)
    → IsTrue (list_any (λ column. column == number) numbers) → number < bound
any_below bound number [] all here = cc
any_below bound number (first ∷ others) all here = elim (or_cases _ _ here) [
  | inl is ↦ let below = ltb-true first bound (and_parts _ _ all).0 in let same = eqb-true first number is in
      omega arith
  | inr later ↦ any_below bound number others (and_parts _ _ all).1 later
]

-- an item of the root is a column or an aggregate
root_few : (items : List Item) (grouped : Bool) (group_by : List ℕ) (aggs : List Agg) (number : ℕ)
    → length items + length aggs ≤ 60
    → IsTrue (are_below (length items) group_by) → IsTrue (is_root_item items grouped group_by aggs number)
    → number < 60
root_few items true group_by aggs number few columns is = elim (or_cases _ _ is) [
  | inl column ↦ let below = any_below (length items) number group_by columns column in omega arith
  | inr agg ↦ let below = ltb-true number (length items + length aggs)
      (and_parts (nat_le (length items) number) (nat_lt number (length items + length aggs)) agg).1 in
      omega arith
]
root_few items false group_by aggs number few columns is = let below = ltb-true number (length items) is in omega arith

keys_few : (items : List Item) (grouped : Bool) (group_by : List ℕ) (aggs : List Agg) (keys : List OrderKey)
    → length items + length aggs ≤ 60
    → IsTrue (are_below (length items) group_by)
    → IsTrue (list_all (λ key. is_root_item items grouped group_by aggs key.item) keys)
    → All (λ key. key.item < 60) keys
keys_few items grouped group_by aggs [] few columns all k d within = absurd (omega (arith, within))
keys_few items grouped group_by aggs (key ∷ keys) few columns all zero d within =
    root_few items grouped group_by aggs key.item few columns (and_parts _ _ all).0
keys_few items grouped group_by aggs (key ∷ keys) few columns all (suc k) d within =
    keys_few items grouped group_by aggs keys few columns (and_parts _ _ all).1 k d (omega (arith, within))

-- the keys of ORDER BY are columns and aggregates
pub order_few : (q : Query) → All (λ key. key.item < 60) q.order
order_few q = keys_few q.items q.grouped q.group_by q.aggs q.order q.grouping_valid.items_fit q.grouping_valid.columns
    q.order_valid.of_root

-- two sides at most
between_two : (left right : ℕ) (across : Bool) → length (if across then left ∷ right ∷ [] else []) ≤ 2
between_two left right true = omega arith
between_two left right false = omega arith

sides_two : (items : List Item) (left : ℕ) (op : CmpOp) (right : Operand) → length (sides_by items left op right) ≤ 2
sides_two items left comparisons.TheVariants.Eq (operands.TheVariants.Item right) =
    between_two left right (is_across items left right)
sides_two items left comparisons.TheVariants.Eq (operands.TheVariants.Int value) = omega arith
sides_two items left comparisons.TheVariants.Eq (operands.TheVariants.Str text) = omega arith
sides_two items left comparisons.TheVariants.Ne right = omega arith
sides_two items left comparisons.TheVariants.Lt right = omega arith
sides_two items left comparisons.TheVariants.Le right = omega arith
sides_two items left comparisons.TheVariants.Gt right = omega arith
sides_two items left comparisons.TheVariants.Ge right = omega arith

all_sides_two : (items : List Item) (preds : List Pred) → length (flat_map (sides_of items) preds) ≤ 2 * length preds
all_sides_two items [] = omega arith
all_sides_two items (pred ∷ preds) =
    let here = sides_two items pred.left pred.op pred.right in
    let later = all_sides_two items preds in
    let both = length-append (sides_of items pred) (flat_map (sides_of items) preds) in
    omega arith

one_more_at_most : {A : Type 0} (first : Option A) (xs : List A) → length (cons_option first xs) ≤ suc (length xs)
one_more_at_most None xs = omega arith
one_more_at_most (Some x) xs = omega arith

filtered_few : {A B : Type 0} (h : A → Option B) (xs : List A) → length (filter_map h xs) ≤ length xs
filtered_few h [] = omega arith
filtered_few h (x ∷ xs) = let first = one_more_at_most (h x) (filter_map h xs) in let later = filtered_few h xs in
    omega arith

one_at_most : (list : List ℕ) → length (unless_empty list) ≤ 1
one_at_most [] = omega arith
one_at_most (first ∷ others) = omega arith

-- three parts are no longer than their bounds together
three_parts : {A : Type 0} (first second third : List A) (a b : ℕ) → length first ≤ a → length second ≤ b
    → length third ≤ 1
    → length ((first ++ second) ++ third) ≤ a + b + 1
three_parts first second third a b x y z =
    let outer = length-append (first ++ second) third in let inner = length-append first second in omega arith

alone_few : (q : Query) → length (one_each (joined_columns q)) ≤ 80
alone_few q =
    let same = length-map (joined_columns q) (λ number. number ∷ []) in
    let two = all_sides_two q.items q.preds in
    let few = q.preds_valid.few in
    omega arith

ascending_few : (q : Query) → length (one_each (ascending (joined_columns q))) ≤ 80
ascending_few q =
    let same = length-map (ascending (joined_columns q)) (λ number. number ∷ []) in
    let same' = length-map (joined_columns q) (λ column. 2 * column) in
    let two = all_sides_two q.items q.preds in
    let few = q.preds_valid.few in
    omega arith

-- a query has at most 91 lists
pub lists_few : (q : Query) → length (found_lists q) ≤ 91
lists_few q =
    let tables = filtered_few (λ table. table.hashed) q.tables in
    let few = q.tables_valid.few in
    three_parts (table_lists q) (one_each (joined_columns q)) (unless_empty q.group_by) 10 80 (omega arith)
    (alone_few q) (one_at_most q.group_by)

-- and at most 82 orders
pub orders_few : (q : Query) → length (found_orders q) ≤ 82
orders_few q =
    three_parts (unless_empty (wanted_order q)) (one_each (ascending (joined_columns q)))
    (unless_empty (ascending q.group_by)) 1 80
    (one_at_most (wanted_order q)) (ascending_few q) (one_at_most (ascending q.group_by))
