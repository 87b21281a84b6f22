-- Each hashed list and each order of a query has a number and a text of its own.
use Rattle.std.proofs.Common.{◌≡◌, ℕ, zero, suc, ◌<◌, ◌↔◌, List, [], length, refl, sym, ap, ◌∙◌, arith, inl, inr}
use Rattle.std.specs.Prelude.{slice_index_or}
use Rattle.std.specs.List.Sorted.{IsStrictlySortedBy}
use Rattle.std.specs.Ordering.{ordering_reverse}
use Rattle.std.specs.declared.cmp.Ordering.TheVariants.{Less, Greater}
use Rattle.std.proofs.lemmas.Bool.{cases_lt}
use Rattle.std.proofs.lemmas.List.Elements.{All-contains, Contains-get_or}
use Rattle.std.proofs.lemmas.Map.Keys.{Less-from_sorted}
use Rattle.query_core.specs.declared.query.Query.{Query}
use Rattle.request_props.specs.Found.{found_lists, found_orders}
use Rattle.request_props.specs.Listing.{list_cmp, listing_of, IsListing}
use Rattle.request_props.specs.Numbered.{lists_of, orders_of, list_of, order_of, IsList}
use Rattle.request_props.proofs.Ordered.{list_cmp_total}
use Rattle.plan_check.specs.Nodes.{IsOrder}
use Rattle.plan_reading.proofs.Elements.{IsColumn, IsElement}
use Rattle.plan_reading.proofs.Joined.{Each}
use Rattle.plan_reading.proofs.NamedColumns.{found_columns, found_elements}

-- ---- lists in strict order

-- no list stands at two places
not_later : (keys : List (List ℕ)) (i j : ℕ) → IsStrictlySortedBy list_cmp keys → i < j → j < length keys
    → slice_index_or keys i [] ≡ slice_index_or keys j [] → ⊥
not_later keys i j rises less below same =
    let key = slice_index_or keys j [] in
    let before : list_cmp (slice_index_or keys i []) key ≡ Less = Less-from_sorted list_cmp keys i j [] rises less below in
    let itself : list_cmp key key ≡ Less = rw same at before in
    let turned : Less ≡ Greater = sym itself ∙ list_cmp_total.antisymm key key ∙ ap ordering_reverse itself in
    absurd cc

place_one : (keys : List (List ℕ)) (i j : ℕ) → IsStrictlySortedBy list_cmp keys → i < length keys → j < length keys
    → slice_index_or keys i [] ≡ slice_index_or keys j [] → i ≡ j
place_one keys i j rises i_below j_below same = elim (cases_lt i j) [
  | inl less ↦ absurd (not_later keys i j rises less j_below same)
  | inr least ↦ elim (cases_lt j i) [
    | inl more ↦ absurd (not_later keys j i rises more i_below (sym same))
    | inr most ↦ omega arith
  ]
]

module _ (q : Query) (listing : (found lists : List (List ℕ)) → IsListing found lists ↔ (lists ≡ listing_of found)) where
  lists_listed : IsListing (found_lists q) (lists_of q)
  lists_listed = (listing (found_lists q) (lists_of q)).1 refl

  orders_listed : IsListing (found_orders q) (orders_of q)
  orders_listed = (listing (found_orders q) (orders_of q)).1 refl

  -- a numbered list is one of columns
  pub list_columns : (h : ℕ) → IsList q h → Each (IsColumn q) (list_of q h)
  list_columns h below = All-contains (Each (IsColumn q)) (found_lists q) (list_of q h) (found_columns q)
      ((lists_listed.exact (list_of q h)).0 (Contains-get_or (lists_of q) h [] below))

  -- and has one number
  pub list_one : (h k : ℕ) → IsList q h → IsList q k → list_of q h ≡ list_of q k → h ≡ k
  list_one h k h_below k_below same = place_one (lists_of q) h k lists_listed.rises h_below k_below same

  pub order_elements : (o : ℕ) → IsOrder q o → Each (IsElement q) (order_of q o)
  order_elements zero is = absurd (omega (arith, is.not_empty))
  order_elements (suc o) is = All-contains (Each (IsElement q)) (found_orders q) (order_of q (suc o)) (found_elements q)
      ((orders_listed.exact (order_of q (suc o))).0 (Contains-get_or (orders_of q) o [] (omega (arith, is.numbered))))

  pub order_one : (o p : ℕ) → IsOrder q o → IsOrder q p → order_of q o ≡ order_of q p → o ≡ p
  order_one zero p is_o is_p same = absurd (omega (arith, is_o.not_empty))
  order_one (suc o) zero is_o is_p same = absurd (omega (arith, is_p.not_empty))
  order_one (suc o) (suc p) is_o is_p same =
      ap suc (place_one (orders_of q) o p orders_listed.rises (omega (arith, is_o.numbered)) (omega (arith, is_p.numbered)) same)
