-- A query has few hashed lists and few orders.
use Rattle.std.proofs.Common.{◌≡◌, ℕ, ◌+◌, ◌*◌, ◌≤◌, Bool, true, false, List, [], ◌∷◌, ◌++◌, length, length-append, map}
use Rattle.std.proofs.Common.{Option, None, Some, refl, arith}
use Rattle.std.specs.Prelude.{flat_map, filter_map, if◌then◌else◌}
use Rattle.std.specs.List.{cons_option}
use Rattle.std.specs.Ordering.{match_ordering}
use Rattle.std.specs.BTreeSet.{insert_key}
use Rattle.std.specs.declared.cmp.Ordering.{Ordering}
use Rattle.std.specs.declared.cmp.Ordering.TheVariants.{Less, Equal, Greater}
use Rattle.query_core.specs.declared.query.Query.{Query}
use Rattle.query_core.specs.declared.table.Item.{Item}
use Rattle.query_core.specs.declared.predicate.Pred.{Pred}
use Rattle.query_core.specs.declared.predicate.Operand.{Operand}
use Rattle.query_core.specs.declared.predicate.Operand.TheVariants as operands
use Rattle.query_core.specs.declared.predicate.CmpOp.{CmpOp}
use Rattle.query_core.specs.declared.predicate.CmpOp.TheVariants as comparisons
use Rattle.request_props.specs.Listing.{list_cmp, listing_of}
use Rattle.request_props.specs.Found.{ascending, wanted_order, is_across, sides_across, sides_by, sides_of}
use Rattle.request_props.specs.Found.{joined_columns, one_each, unless_empty, table_lists, found_lists, found_orders}
use Rattle.request_props.specs.Numbered.{lists_of, orders_of}

module _ {K : Type 0} (R : K → K → Ordering) where
  put_few : (xs : List K) (new : K) → length (insert_key R xs new) ≤ length xs + 1
  put_few [] new = omega arith
  put_few (x ∷ xs) new = elim (R new x) as
      (λ o. length (match_ordering o (new ∷ x ∷ xs) (x ∷ xs) (x ∷ insert_key R xs new)) ≤ length (x ∷ xs) + 1) [
        | Less ↦ omega arith
        | Equal ↦ omega arith
        | Greater ↦ let few = put_few xs new in omega arith
      ]

-- a listing has no more lists than were found
pub listing_few : (found : List (List ℕ)) → length (listing_of found) ≤ length found
listing_few [] = omega arith
listing_few (list ∷ others) = let few = listing_few others in let put = put_few list_cmp (listing_of others) list in
    omega arith

between_few : (across : Bool) (left right : ℕ) → length (if across then left ∷ right ∷ [] else []) ≤ 2
between_few true left right = omega arith
between_few false left right = omega arith

across_few : (items : List Item) (left : ℕ) (right : Operand) → length (sides_across items left right) ≤ 2
across_few items left (operands.Item right) = between_few (is_across items left right) left right
across_few items left (operands.Int value) = omega arith
across_few items left (operands.Str text) = omega arith

by_few : (items : List Item) (left : ℕ) (op : CmpOp) (right : Operand) → length (sides_by items left op right) ≤ 2
by_few items left comparisons.Eq right = across_few items left right
by_few items left comparisons.Ne right = omega arith
by_few items left comparisons.Lt right = omega arith
by_few items left comparisons.Le right = omega arith
by_few items left comparisons.Gt right = omega arith
by_few items left comparisons.Ge right = omega arith

-- a predicate joins two columns at most
joined_few : (items : List Item) (preds : List Pred) → length (flat_map (sides_of items) preds) ≤ 2 * length preds
joined_few items [] = omega arith
joined_few items (pred ∷ preds) =
    let few = joined_few items preds in
    let here = by_few items pred.left pred.op pred.right in
    let both = length-append (sides_of items pred) (flat_map (sides_of items) preds) in
    omega arith

mapped_few : {X Y : Type 0} (f : X → Y) (xs : List X) → length (map f xs) ≡ length xs
mapped_few f [] = refl
mapped_few f (x ∷ xs) = let rest = mapped_few f xs in omega arith

one_few : (list : List ℕ) → length (unless_empty list) ≤ 1
one_few [] = omega arith
one_few (x ∷ xs) = omega arith

columns_few : (q : Query) → length (joined_columns q) ≤ 80
columns_few q = let few = joined_few q.items q.preds in let preds = q.preds_valid.few in omega arith

pub orders_few : (q : Query) → length (orders_of q) ≤ 82
orders_few q =
    let columns = columns_few q in
    let listed = listing_few (found_orders q) in
    let turned = mapped_few (λ column. 2 * column) (joined_columns q) in
    let lists = mapped_few (λ number. number ∷ []) (ascending (joined_columns q)) in
    let first = one_few (wanted_order q) in
    let last = one_few (ascending q.group_by) in
    let front = unless_empty (wanted_order q) ++ one_each (ascending (joined_columns q)) in
    let two : length front ≡ length (unless_empty (wanted_order q)) + length (one_each (ascending (joined_columns q))) =
    length-append (unless_empty (wanted_order q)) (one_each (ascending (joined_columns q))) in
    let three : length (found_orders q) ≡ length front + length (unless_empty (ascending q.group_by)) =
    length-append front (unless_empty (ascending q.group_by)) in
    omega arith

module _ {X Y : Type 0} (f : X → Option Y) where
  given_few : (found : Option Y) (ys : List Y) → length (cons_option found ys) ≤ length ys + 1
  given_few None ys = omega arith
  given_few (Some y) ys = omega arith

  given_all_few : (xs : List X) → length (filter_map f xs) ≤ length xs
  given_all_few [] = omega arith
  given_all_few (x ∷ xs) = let few = given_all_few xs in let here = given_few (f x) (filter_map f xs) in omega arith

pub lists_few : (q : Query) → length (lists_of q) ≤ 91
lists_few q =
    let columns = columns_few q in
    let tables = q.tables_valid.few in
    let listed = listing_few (found_lists q) in
    let lists = mapped_few (λ number. number ∷ []) (joined_columns q) in
    let first : length (table_lists q) ≤ length q.tables = given_all_few (λ table. table.hashed) q.tables in
    let last = one_few q.group_by in
    let front = table_lists q ++ one_each (joined_columns q) in
    let two : length front ≡ length (table_lists q) + length (one_each (joined_columns q)) =
    length-append (table_lists q) (one_each (joined_columns q)) in
    let three : length (found_lists q) ≡ length front + length (unless_empty q.group_by) =
    length-append front (unless_empty q.group_by) in
    omega arith
