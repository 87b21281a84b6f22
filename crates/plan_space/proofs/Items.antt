-- Which items groups have, and which items a predicate equates across two groups.
use Rattle.std.proofs.Common.{◌≡◌, ℕ, ◌^◌, false, List, [], ◌∷◌, refl, ap, sym, subst, arith}
use Rattle.std.proofs.Common.{IsTrue}
use Rattle.std.specs.Prelude.{Option, Some, None, ◌==◌, ◌&&◌, bit_and, bit_or, slice_get, is_some}
use Rattle.std.specs.Prelude.{if◌then◌else◌}
use Rattle.std.specs.Int.{trailing_zeros, w32}
use Rattle.std.specs.List.{Contains}
use Rattle.std.specs.Option.{option_map, option_map_or}
use Rattle.std.proofs.lemmas.Bool.{cond_both, and_parts, eqb-true, eq-eqb, ne_eqb, false≢true}
use Rattle.std.proofs.lemmas.Nat.Bits.{bit_at_and, bit_at_or, bit_at-pow_same, bit_at-zero, bit_at-lt}
use Rattle.query_core.specs.Crossing.{equal_item, sides_of, sides_with, crossing_at, crossing_of}
use Rattle.query_core.specs.Expressions.{FallsInto}
use Rattle.query_core.specs.Items.{is_column_of}
use Rattle.query_core.specs.Keys.{has_own, group_of_table, top_of, is_column_in, has_item}
use Rattle.query_core.specs.Links.{link_between}
use Rattle.query_core.specs.Sets.{bit, Has}
use Rattle.query_core.specs.declared.table.Item.{Item}
use Rattle.query_core.specs.declared.predicate.CmpOp.{CmpOp}
use Rattle.query_core.specs.declared.predicate.CmpOp.TheVariants as comparisons
use Rattle.query_core.specs.declared.predicate.Operand.{Operand}
use Rattle.query_core.specs.declared.predicate.Operand.TheVariants as operands
use Rattle.query_core.specs.declared.predicate.Pred.{Pred}
use Rattle.query_core.specs.declared.query.Query.{Query}
use Rattle.query_core.specs.declared.words.KeyParts.{KeyParts}
use Rattle.query_core.specs.declared.words.KeyParts.TheVariants as groups
use Rattle.request_props.specs.Found.{is_across, sides_between, sides_by, joined_columns}
use Rattle.request_props.specs.Found.{sides_of as sides_found}
use Rattle.plan_space.proofs.Numbers.{contains_here, contains_later, contains_flat_map}

-- ---- sets of tables

-- two sets that have nothing in common
abbrev AreApart : ℕ → ℕ → Type 0
AreApart a b = (t : ℕ) → Has a t → Has b t → ⊥

apart_sets : (a b : ℕ) → bit_and a b ≡ 0 → AreApart a b
unfolding bit
apart_sets a b apart t in_a in_b = omega (arith, ap (λ s. bit s t) apart, bit_at_and a b t, bit_at-zero t, in_a, in_b)

apart_turned : (a b : ℕ) → AreApart a b → AreApart b a
apart_turned a b apart t in_b in_a = apart t in_a in_b

-- the left side of a set lies in it
left_in : (a b t : ℕ) → Has a t → Has (bit_or a b) t
unfolding bit
left_in a b t has = omega (arith, bit_at_or a b t, bit_at-lt b t, has)

-- the set of one table has it
one_has : (t : ℕ) → Has (2 ^ t) t
unfolding bit
one_has t = bit_at-pow_same t

-- ---- items of groups

-- a column of a table is one of a set that has the table
column_in_set : (set t : ℕ) → Has set t → (item : Option Item) → IsTrue (option_map_or (λ x. x.table == t) item false)
    → IsTrue (option_map_or (λ x. bit set x.table == 1) item false)
column_in_set set t has None column = column
column_in_set set t has (Some item) column =
    eq-eqb (bit set item.table) 1 (subst (λ u. bit set u ≡ 1) (sym (eqb-true item.table t column)) has)

-- and of each larger set
column_in_larger : (set whole : ℕ) → ((t : ℕ) → Has set t → Has whole t) → (item : Option Item)
    → IsTrue (option_map_or (λ x. bit set x.table == 1) item false)
    → IsTrue (option_map_or (λ x. bit whole x.table == 1) item false)
column_in_larger set whole larger None column = column
column_in_larger set whole larger (Some item) column =
    eq-eqb (bit whole item.table) 1 (larger item.table (eqb-true (bit set item.table) 1 column))

-- an item of a table's group is a column of the table
alone_column : (q : Query) (t i : ℕ) → IsTrue (has_item q (group_of_table q t) i) → IsTrue (is_column_of q.items t i)
alone_column q t i =
    cond_both (has_own q t) (groups.Filter t) (groups.Get t) (λ group. IsTrue (has_item q group i)
    → IsTrue (is_column_of q.items t i))
    (λ own item. item) (λ none item. item)

-- an item of the group that joins the tables of a set is a column of one of them
top_column : (q : Query) (set i : ℕ) → IsTrue (has_item q (top_of q set) i) → IsTrue (is_column_in q.items set i)
top_column q set i =
    let least = trailing_zeros w32 set in
    cond_both (set == 2 ^ least) (Some least) None
    (λ found. IsTrue (has_item q (option_map_or (group_of_table q) found (groups.Join set)) i)
    → IsTrue (is_column_in q.items set i))
    (λ same item.
    let has : Has set least = subst (λ s. Has s least) (sym (eqb-true set (2 ^ least) same)) (one_has least) in
    column_in_set set least has (slice_get q.items i) (alone_column q least i item))
    (λ several item. item)

-- a larger set's group has the items of the smaller one's
top_kept : (q : Query) (a b i : ℕ) → IsTrue (has_item q (top_of q a) i)
    → IsTrue (has_item q (groups.Join (bit_or a b)) i)
top_kept q a b i item = column_in_larger a (bit_or a b) (left_in a b) (slice_get q.items i) (top_column q a i item)

-- ---- crossing equalities

-- a link between different tables is there
link_there : (s t : ℕ) → (s ≡ t → ⊥) → IsTrue (is_some (link_between (Some s) (Some t)))
link_there s t differ = rw (ne_eqb s t differ) refl

-- columns of sets that are apart are columns of different tables
across_by : (a b : ℕ) → AreApart a b → (left right : Option Item)
    → IsTrue (option_map_or (λ x. bit a x.table == 1) left false)
    → IsTrue (option_map_or (λ x. bit b x.table == 1) right false)
    → IsTrue (is_some (link_between (option_map (λ x. x.table) left) (option_map (λ x. x.table) right)))
across_by a b apart None right in_a in_b = absurd (false≢true in_a)
across_by a b apart (Some left) None in_a in_b = absurd (false≢true in_b)
across_by a b apart (Some left) (Some right) in_a in_b =
    link_there left.table right.table (λ same.
    apart left.table (eqb-true (bit a left.table) 1 in_a)
    (subst (λ t. bit b t ≡ 1) (sym same) (eqb-true (bit b right.table) 1 in_b)))

-- the sides of an equality over different tables are columns of joins
across_sides : (items : List Item) (left right : ℕ) → IsTrue (is_across items left right)
    → Contains (sides_between items left right) left × Contains (sides_between items left right) right
across_sides items left right across = rw across
    (contains_here left (right ∷ []), contains_later left (right ∷ []) right (contains_here right []))

-- the sides of a predicate that equates two items
equal_sides : (items : List Item) (left : ℕ) (op : CmpOp) (right : Operand) (item : ℕ) → equal_item op right ≡ Some item
    → sides_by items left op right ≡ sides_between items left item
equal_sides items left comparisons.Eq (operands.Item number) item equal = let same : number ≡ item = cc in
    ap (sides_between items left) same
equal_sides items left op right item equal = let never : None ≡ Some item = equal in cc

-- the two items lie in the groups, the first in the left one, and plans may ask for both as columns of joins
pub record AreSides (q : Query) (left right : KeyParts) (sides : ℕ × ℕ) : Type 0 where
  pub in_left : IsTrue (has_item q left sides.0)
  pub in_right : IsTrue (has_item q right sides.1)
  pub left_joined : Contains (joined_columns q) sides.0
  pub right_joined : Contains (joined_columns q) sides.1

module _ (q : Query) (a b : ℕ) (apart : AreApart a b) where
  -- items of the groups of two sets that are apart are sides of joins where a predicate equates them
  joined_sides : (number : ℕ) (pred : Pred) (item : ℕ) → slice_get q.preds number ≡ Some pred
      → equal_item pred.op pred.right ≡ Some item
      → IsTrue (is_across q.items pred.left item)
      → Contains (joined_columns q) pred.left × Contains (joined_columns q) item
  joined_sides number pred item got equal across =
      let same = equal_sides q.items pred.left pred.op pred.right item equal in
      let sides = across_sides q.items pred.left item across in (
        contains_flat_map (sides_found q.items) q.preds number pred pred.left got
            (subst (λ s. Contains s pred.left) (sym same) sides.0),
        contains_flat_map (sides_found q.items) q.preds number pred item got
            (subst (λ s. Contains s item) (sym same) sides.1),
      )

  sides_by_items : (number : ℕ) (pred : Pred) (item : ℕ) (sides : ℕ × ℕ) → slice_get q.preds number ≡ Some pred
      → equal_item pred.op pred.right ≡ Some item
      → sides_of q (top_of q a) (top_of q b) pred.left item ≡ Some sides → AreSides q (top_of q a) (top_of q b) sides
  sides_by_items number pred item sides got equal =
      let left = top_of q a in
      let right = top_of q b in
      let first = pred.left in
      let turned = has_item q left item && has_item q right first in
      cond_both (has_item q left first && has_item q right item) (Some (first, item))
      (if turned then Some (item, first) else None)
      (λ found. found ≡ Some sides → AreSides q left right sides)
      (λ both is.
      let (in_left, in_right) = and_parts (has_item q left first) (has_item q right item) both in
      let across = across_by a b apart (slice_get q.items first) (slice_get q.items item) (top_column q a first in_left)
      (top_column q b item in_right) in
      let joined = joined_sides number pred item got equal across in
      let same : (first, item) ≡ sides = cc in
      subst (AreSides q left right) same (record {
        in_left = in_left;
        in_right = in_right;
        left_joined = joined.0;
        right_joined = joined.1;
      }))
      (λ none.
      cond_both turned (Some (item, first)) None
      (λ found. found ≡ Some sides → AreSides q left right sides)
      (λ both is.
      let (in_left, in_right) = and_parts (has_item q left item) (has_item q right first) both in
      let across = across_by b a (apart_turned a b apart) (slice_get q.items first) (slice_get q.items item)
      (top_column q b first in_right) (top_column q a item in_left) in
      let joined = joined_sides number pred item got equal across in
      let same : (item, first) ≡ sides = cc in
      subst (AreSides q left right) same (record {
        in_left = in_left;
        in_right = in_right;
        left_joined = joined.1;
        right_joined = joined.0;
      }))
      (λ neither is. let never : None ≡ Some sides = is in cc))

  sides_by_option : (number : ℕ) (pred : Pred) (item : Option ℕ) (sides : ℕ × ℕ) → slice_get q.preds number ≡ Some pred
      → equal_item pred.op pred.right ≡ item
      → sides_with q (top_of q a) (top_of q b) pred.left item ≡ Some sides → AreSides q (top_of q a) (top_of q b) sides
  sides_by_option number pred None sides got equal is = let never : None ≡ Some sides = is in cc
  sides_by_option number pred (Some item) sides got equal is = sides_by_items number pred item sides got equal is

  sides_by_pred : (number : ℕ) (pred : Option Pred) (sides : ℕ × ℕ) → slice_get q.preds number ≡ pred
      → crossing_at q (top_of q a) (top_of q b) pred ≡ Some sides → AreSides q (top_of q a) (top_of q b) sides
  sides_by_pred number None sides got is = let never : None ≡ Some sides = is in cc
  sides_by_pred number (Some pred) sides got is =
      sides_by_option number pred (equal_item pred.op pred.right) sides got refl is

  -- the items that a predicate equates across the groups
  crossing_sides : (number : ℕ) (sides : ℕ × ℕ) → crossing_of q (top_of q a) (top_of q b) number ≡ Some sides
      → AreSides q (top_of q a) (top_of q b) sides
  crossing_sides number sides is = sides_by_pred number (slice_get q.preds number) sides refl is

-- ---- joins

-- a group that joins two groups has the items of the left one, and what a predicate equates across the two are sides
pub record JoinsGroups (q : Query) (group left right : KeyParts) : Type 0 where
  pub kept : (i : ℕ) → IsTrue (has_item q left i) → IsTrue (has_item q group i)
  pub sides : (number : ℕ) (sides : ℕ × ℕ) → crossing_of q left right number ≡ Some sides → AreSides q left right sides

-- the groups of the two sets that a set falls into are joined by its group
pub sets_join : (q : Query) (set a b : ℕ) → FallsInto q set a b
    → JoinsGroups q (groups.Join set) (top_of q a) (top_of q b)
sets_join q set a b falls = record {
  kept = λ i item. subst (λ s. IsTrue (has_item q (groups.Join s) i)) falls.whole (top_kept q a b i item);
  sides = crossing_sides q a b (apart_sets a b falls.disjoint);
}
