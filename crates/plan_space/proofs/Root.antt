-- What is asked of the whole plan fits the root, and nothing else is.
use Rattle.std.proofs.Common.{◌≡◌, ℕ, zero, suc, ◌+◌, ◌-◌, ◌*◌, ◌/◌, ◌^◌, ◌<◌, Bool, true, false, List, [], ◌∷◌, ◌++◌}
use Rattle.std.proofs.Common.{length, refl, ap, sym, subst, ◌∙◌, inl, inr, arith, IsTrue, slice_index_or}
use Rattle.std.specs.Prelude.{Option, Some, None, ◌==◌, All, slice_get, nat_lt, if◌then◌else◌}
use Rattle.std.specs.Cmp.{IsTotalOrder}
use Rattle.std.specs.Int.{trailing_zeros, w32}
use Rattle.std.specs.List.{Contains, list_all}
use Rattle.std.specs.List.Sorted.{IsStrictlySortedBy}
use Rattle.std.specs.Option.{option_map_or}
use Rattle.std.specs.Ordering.{ordering_reverse}
use Rattle.std.specs.declared.cmp.Ordering.{Ordering}
use Rattle.std.specs.declared.cmp.Ordering.TheVariants.{Less, Greater}
use Rattle.std.proofs.lemmas.Bool.{cond_both, cases_eq, ltb-true, eqb-true, eq-eqb, and_parts}
use Rattle.std.proofs.lemmas.Cmp.{then_total, on_total, nat_cmp_total, nat_list_cmp_total}
use Rattle.std.proofs.lemmas.List.Elements.{All-nil, All-cons, All-append, All-map, All-weaker, All-contains}
use Rattle.std.proofs.lemmas.List.Elements.{Contains-append_left}
use Rattle.std.proofs.lemmas.List.Sums.{AllPass-from_list_all}
use Rattle.std.proofs.lemmas.Map.Keys.{sorted_tail}
use Rattle.std.proofs.lemmas.Map.Views.{All-after_first}
use Rattle.std.proofs.lemmas.Nat.Bits.{bit_at_ones, bit_at-pow_other}
use Rattle.query_core.specs.Items.{is_column_of}
use Rattle.query_core.specs.Keys.{has_own, group_of_table, top_of, input_of, root_of, is_column_in, has_item}
use Rattle.query_core.specs.Results.{is_root_item}
use Rattle.query_core.specs.Sets.{bit, Has}
use Rattle.query_core.specs.declared.options.RootDist.{RootDist}
use Rattle.query_core.specs.declared.options.RootDist.TheVariants.{One, Spread}
use Rattle.query_core.specs.declared.output.OrderKey.{OrderKey}
use Rattle.query_core.specs.declared.query.Query.{Query}
use Rattle.query_core.specs.declared.table.Item.{Item}
use Rattle.query_core.specs.declared.words.KeyParts.{KeyParts}
use Rattle.query_core.specs.declared.words.KeyParts.TheVariants as groups
use Rattle.request_props.specs.Found.{element_of, ascending, joined_columns, unless_empty, wanted_order, found_orders}
use Rattle.request_props.specs.Found.{one_each}
use Rattle.request_props.specs.Listing.{list_cmp}
use Rattle.request_props.specs.Numbered.{orders_of, IsNumbered, order_of, root_dist, IsNumberOf, IsProps, order_number}
use Rattle.request_props.specs.Numbered.{root_request}
use Rattle.request_props.specs.declared.props.Props.{Props}
use Rattle.plan_space.specs.Lines.{request}
use Rattle.request_props.specs.Lying.{OrderLiesIn}
use Rattle.request_props.specs.Fitting.{DistFits, Fits}
use Rattle.plan_space.proofs.Numbers.{ListingIsOne, contains_here, order_numbered}

-- ---- items of the root

-- a column of a table is an item of the table's group
column_alone : (q : Query) (t i : ℕ) → IsTrue (is_column_of q.items t i) → IsTrue (has_item q (group_of_table q t) i)
column_alone q t i column = cond_both (has_own q t) (groups.Filter t) (groups.Get t)
    (λ group. IsTrue (has_item q group i)) (λ own. column) (λ none. column)

-- the set of one table has no other
only_has : (t u : ℕ) → Has (2 ^ t) u → u ≡ t
unfolding bit
only_has t u has = elim (cases_eq u t) [
  | inl same ↦ same
  | inr other ↦ absurd (omega (arith, bit_at-pow_other t u other, has))
]

-- a column of the set of one table is a column of the table
only_column : (t : ℕ) (item : Option Item) → IsTrue (option_map_or (λ x. bit (2 ^ t) x.table == 1) item false)
    → IsTrue (option_map_or (λ x. x.table == t) item false)
only_column t None column = column
only_column t (Some item) column = eq-eqb item.table t
    (only_has t item.table (eqb-true (bit (2 ^ t) item.table) 1 column))

-- a column of a table of a set is an item of the group that joins the set's tables
column_top : (q : Query) (set i : ℕ) → IsTrue (is_column_in q.items set i) → IsTrue (has_item q (top_of q set) i)
column_top q set i column =
    let least = trailing_zeros w32 set in
    cond_both (set == 2 ^ least) (Some least) None
    (λ found. IsTrue (has_item q (option_map_or (group_of_table q) found (groups.Join set)) i))
    (λ same.
    let own = subst (λ s. IsTrue (is_column_in q.items s i)) (eqb-true set (2 ^ least) same) column in
    column_alone q least i (only_column least (slice_get q.items i) own))
    (λ several. column)

-- the first tables are in the set of them
first_has : (count t : ℕ) → t < count → Has (2 ^ count - 1) t
unfolding bit
first_has count t below = bit_at_ones count t below

-- each of these items is a column of the first tables
column_of_first : (count : ℕ) (items : List Item) (i : ℕ) → IsTrue (list_all (λ item. nat_lt item.table count) items)
    → i < length items
    → IsTrue (is_column_in items (2 ^ count - 1) i)
column_of_first count [] i placed within = absurd (omega (arith, within))
column_of_first count (item ∷ items) zero placed within =
    eq-eqb (bit (2 ^ count - 1) item.table) 1
    (first_has count item.table (ltb-true item.table count (and_parts _ _ placed).0))
column_of_first count (item ∷ items) (suc i) placed within =
    column_of_first count items i (and_parts _ _ placed).1 (omega (arith, within))

-- each item is one of the group that joins all tables
pub input_item : (q : Query) (i : ℕ) → i < length q.items → IsTrue (has_item q (input_of q) i)
input_item q i within = column_top q (2 ^ length q.tables - 1) i
    (column_of_first (length q.tables) q.items i q.items_valid.placed within)

-- what may stand in the output and the order of the query are items of its root
root_item : (q : Query) (grouped : Bool) (i : ℕ) → IsTrue (is_root_item q.items grouped q.group_by q.aggs i)
    → IsTrue (has_item q (if grouped then groups.Agg else input_of q) i)
root_item q true i item = item
root_item q false i item = input_item q i (ltb-true i (length q.items) item)

-- ---- the order of ORDER BY

-- half of an element is its item
item_of_element : (key : OrderKey) → key.item ≡ element_of key / 2
item_of_element key = cond_both key.desc 1 0 (λ last. key.item ≡ (2 * key.item + last) / 2) (λ falls. omega arith)
    (λ rises. omega arith)

-- the order lies in the root
wanted_lies : (q : Query) → OrderLiesIn q (root_of q) (wanted_order q)
wanted_lies q =
    All-map (λ element. IsTrue (has_item q (root_of q) (element / 2))) element_of q.order
    (All-weaker (λ key. IsTrue (is_root_item q.items q.grouped q.group_by q.aggs key.item))
    (λ key. IsTrue (has_item q (root_of q) (element_of key / 2)))
    (λ key item. subst (λ i. IsTrue (has_item q (root_of q) i)) (item_of_element key)
    (root_item q q.grouped key.item item)) q.order
    (AllPass-from_list_all (λ key. is_root_item q.items q.grouped q.group_by q.aggs key.item) q.order
    q.order_valid.of_root))

-- the distribution that the root option asks for fits each group
root_dist_fits : (q : Query) (group : KeyParts) (root : RootDist) → DistFits q group (root_dist root)
root_dist_fits q group One = tt
root_dist_fits q group Spread = tt

module _ (one : ListingIsOne) (q : Query) where
  -- the order has a number
  wanted_numbered : (order : List ℕ) → wanted_order q ≡ order → IsNumbered q (order_number q order)
      × (order_of q (order_number q order) ≡ order)
  wanted_numbered [] is = (omega arith, refl)
  wanted_numbered (first ∷ others) is =
      let order = first ∷ others in
      let wanted = unless_empty (wanted_order q) in
      let joined = one_each (ascending (joined_columns q)) in
      let own : Contains wanted order = subst (λ o. Contains (unless_empty o) order) (sym is)
      (contains_here order []) in
      order_numbered one q first others
      (Contains-append_left (wanted ++ joined) (unless_empty (ascending q.group_by)) order
      (Contains-append_left wanted joined order own))

  -- what is asked of the whole plan fits the root
  pub root_fits : Fits q (root_of q) (root_request q)
  root_fits =
      let place = wanted_numbered (wanted_order q) refl in
      record {
        dist = root_dist_fits q (root_of q) q.options.root;
        numbered = place.0;
        order = subst (OrderLiesIn q (root_of q)) (sym place.1) (wanted_lies q);
      }

-- ---- the number of an order is one

module _ {K : Type 0} {R : K → K → Ordering} (total : IsTotalOrder R) where
  -- nothing is below itself
  not_below_itself : (x : K) → R x x ≡ Less → ⊥
  not_below_itself x below = let turned : Less ≡ Greater = sym below ∙ total.antisymm x x ∙ ap ordering_reverse below in
      cc

  -- where a list strictly rises, nothing stands at two places
  one_place : (xs : List K) (i j : ℕ) (d : K) → IsStrictlySortedBy R xs → i < length xs → j < length xs
      → slice_index_or xs i d ≡ slice_index_or xs j d → i ≡ j
  one_place [] i j d rises i_within j_within same = absurd (omega (arith, i_within))
  one_place (x ∷ xs) zero zero d rises i_within j_within same = refl
  one_place (x ∷ xs) zero (suc j) d rises i_within j_within same =
      absurd (not_below_itself x (subst (λ (y : K). R x y ≡ Less) (sym same)
      (All-after_first R x xs rises j d (omega (arith, j_within)))))
  one_place (x ∷ xs) (suc i) zero d rises i_within j_within same =
      absurd (not_below_itself x (subst (λ (y : K). R x y ≡ Less) same
      (All-after_first R x xs rises i d (omega (arith, i_within)))))
  one_place (x ∷ xs) (suc i) (suc j) d rises i_within j_within same =
      ap suc (one_place xs i j d (sorted_tail R x xs rises) (omega (arith, i_within)) (omega (arith, j_within)) same)

-- lists are in a total order
lists_total : IsTotalOrder list_cmp
lists_total = then_total (on_total (λ (list : List ℕ). length list) nat_cmp_total) nat_list_cmp_total

-- an order that isn't empty has the number after its place, and no other
number_of_full : (orders : List (List ℕ)) (first : ℕ) (others : List ℕ) (number place : ℕ)
    → IsStrictlySortedBy list_cmp orders
    → IsNumberOf orders (first ∷ others) number → place < length orders
    → slice_index_or orders place [] ≡ first ∷ others → number ≡ suc place
number_of_full orders first others zero place rises of_order within here = let never : [] ≡ first ∷ others =
    of_order.is_order in cc
number_of_full orders first others (suc other) place rises of_order within here =
    ap suc (one_place lists_total orders other place [] rises (omega (arith, of_order.numbered)) within
    (of_order.is_order ∙ sym here))

-- the empty order has 0 alone, where it is none of those with a place
number_of_empty : (orders : List (List ℕ)) (number : ℕ) → (Contains orders [] → ⊥) → IsNumberOf orders [] number
    → number ≡ 0
number_of_empty orders zero none of_order = refl
number_of_empty orders (suc place) none of_order =
    absurd (none (place, omega (arith, of_order.numbered), of_order.is_order))

-- the list isn't empty
abbrev IsNonempty : List ℕ → Type 0
IsNonempty list = list ≡ [] → ⊥

unless_empty_full : (list : List ℕ) → All IsNonempty (unless_empty list)
unless_empty_full [] = All-nil IsNonempty
unless_empty_full (first ∷ others) = All-cons IsNonempty (first ∷ others) [] (λ never. cc) (All-nil IsNonempty)

alone_full : (numbers : List ℕ) → All IsNonempty (one_each numbers)
alone_full [] = All-nil IsNonempty
alone_full (first ∷ numbers) = All-cons IsNonempty (first ∷ []) (one_each numbers) (λ never. cc) (alone_full numbers)

-- no order that is found is empty
found_full : (q : Query) → All IsNonempty (found_orders q)
found_full q =
    let wanted = unless_empty (wanted_order q) in
    let joined = one_each (ascending (joined_columns q)) in
    All-append IsNonempty (wanted ++ joined) (unless_empty (ascending q.group_by))
    (All-append IsNonempty wanted joined (unless_empty_full (wanted_order q))
    (alone_full (ascending (joined_columns q))))
    (unless_empty_full (ascending q.group_by))

module _ (one : ListingIsOne) (q : Query) where
  -- so the empty order has no place
  no_empty_order : Contains (orders_of q) [] → ⊥
  no_empty_order contains =
      let listing = (one (found_orders q) (orders_of q)).1 refl in
      All-contains IsNonempty (found_orders q) [] (found_full q) ((listing.exact []).0 contains) refl

  -- the order of ORDER BY has one number
  wanted_number : (order : List ℕ) (number : ℕ) → wanted_order q ≡ order → IsNumberOf (orders_of q) order number
      → number ≡ order_number q order
  wanted_number [] number is of_order = number_of_empty (orders_of q) number no_empty_order of_order
  wanted_number (first ∷ others) number is of_order =
      let place = wanted_numbered one q (first ∷ others) is in
      let listing = (one (found_orders q) (orders_of q)).1 refl in
      number_of_full (orders_of q) first others number _ listing.rises of_order (omega (arith, place.0)) place.1

  -- what is collected for the whole plan is what is asked of it
  pub root_collected : (props : Props) → IsProps q props → props.root ≡ root_request q
  root_collected props collected =
      let is_root = collected.root_request in
      ap (λ dist. request dist props.root.order) is_root.dist
      ∙ ap (request (root_dist q.options.root)) (wanted_number (wanted_order q) props.root.order refl is_root.order)
