-- The numbers of the hashed lists and the orders that a query has.
use Rattle.std.proofs.Common.{◌≡◌, ℕ, zero, suc, ◌*◌, ◌<◌, ◌↔◌, false, List, [], ◌∷◌, ◌++◌, length, map, refl, ap, sym}
use Rattle.std.proofs.Common.{subst, ◌∙◌, inl, inr, arith, bytes_eq, slice_index_or}
use Rattle.std.specs.List.{Contains, position_or_len, flat_map, filter_map, cons_option}
use Rattle.std.proofs.lemmas.List.{get_or-map, length-map}
use Rattle.std.specs.Prelude.{Option, Some, None, slice_get}
use Rattle.std.proofs.lemmas.Bool.{cases_lt, false≢true}
use Rattle.std.proofs.lemmas.List.Elements.{Contains-append_left, Contains-append_right}
use Rattle.std.proofs.lemmas.List.Sums.{fails_before_first, passes_at_first}
use Rattle.std.proofs.lemmas.Slice.Eq.{bytes_eq-Decides}
use Rattle.query_core.specs.declared.query.Query.{Query}
use Rattle.query_core.specs.declared.table.QueryTable.{QueryTable}
use Rattle.request_props.specs.Listing.{IsListing, listing_of}
use Rattle.request_props.specs.Found.{ascending, one_each, unless_empty, wanted_order, table_lists, joined_columns}
use Rattle.request_props.specs.Found.{found_lists, found_orders}
use Rattle.request_props.specs.Numbered.{lists_of, orders_of, IsNumbered, order_of, list_number, list_of, order_number}
use Rattle.request_props.specs.Numbered.{column_list, column_order}

-- ---- places in lists

-- the first place of a list that is there has it
place_found : (lists : List (List ℕ)) (list d : List ℕ) → Contains lists list
    → (position_or_len (bytes_eq list) lists < length lists)
    × (slice_index_or lists (position_or_len (bytes_eq list) lists) d ≡ list)
place_found lists list d (k, within, here) =
    let place = position_or_len (bytes_eq list) lists in
    let below : place < length lists = elim (cases_lt place (length lists)) [
      | inl less ↦ less
      | inr beyond ↦
          let fails : bytes_eq list (slice_index_or lists k list) ≡ false =
          fails_before_first (bytes_eq list) lists k list (omega (arith, within, beyond)) in
          absurd (false≢true (sym fails ∙ (bytes_eq-Decides list (slice_index_or lists k list)).1 (sym here)))
    ] in (
      below,
      sym ((bytes_eq-Decides list (slice_index_or lists place d)).0
          (passes_at_first (bytes_eq list) lists d below)),
    )

-- the first element of a list is there
pub contains_here : {A : Type 0} (x : A) (xs : List A) → Contains (x ∷ xs) x
contains_here x xs = (0, omega arith, refl)

-- and so is each later one
pub contains_later : {A : Type 0} (first : A) (xs : List A) (x : A) → Contains xs x → Contains (first ∷ xs) x
contains_later first xs x contains = Contains-append_right (first ∷ []) xs x contains

-- what an element gives is there, where each gives one thing
contains_map : {A B : Type 0} (f : A → B) (xs : List A) (x : A) → Contains xs x → Contains (map f xs) (f x)
contains_map f xs x (k, within, here) = (
  k,
  omega (arith, within, length-map xs f),
  get_or-map f xs k x (f x) within
      ∙ ap f here,
)

-- where each gives a list
pub contains_flat_map : {A B : Type 0} (f : A → List B) (xs : List A) (n : ℕ) (x : A) (y : B) → slice_get xs n ≡ Some x
    → Contains (f x) y
    → Contains (flat_map f xs) y
contains_flat_map f [] n x y got contains = let never : None ≡ Some x = got in cc
contains_flat_map f (first ∷ xs) zero x y got contains =
    let same : first ≡ x = cc in
    Contains-append_left (f first) (flat_map f xs) y (subst (λ z. Contains (f z) y) (sym same) contains)
contains_flat_map f (first ∷ xs) (suc n) x y got contains =
    Contains-append_right (f first) (flat_map f xs) y (contains_flat_map f xs n x y got contains)

-- with an element before it, or with none
contains_option : {A : Type 0} (first : Option A) (xs : List A) (x : A) → Contains xs x
    → Contains (cons_option first xs) x
contains_option None xs x contains = contains
contains_option (Some first) xs x contains = contains_later first xs x contains

-- where each gives one thing or none
pub contains_filter_map : {A B : Type 0} (h : A → Option B) (xs : List A) (n : ℕ) (x : A) (y : B)
    → slice_get xs n ≡ Some x → h x ≡ Some y
    → Contains (filter_map h xs) y
contains_filter_map h [] n x y got gives = let never : None ≡ Some x = got in cc
contains_filter_map h (first ∷ xs) zero x y got gives =
    let same : first ≡ x = cc in
    subst (λ z. Contains (cons_option z (filter_map h xs)) y) (sym (ap h same ∙ gives))
    (contains_here y (filter_map h xs))
contains_filter_map h (first ∷ xs) (suc n) x y got gives =
    contains_option (h first) (filter_map h xs) y (contains_filter_map h xs n x y got gives)

-- ---- lists and orders of the query

-- what was found has one listing
abbrev pub ListingIsOne : Type 0
ListingIsOne = (found lists : List (List ℕ)) → IsListing found lists ↔ (lists ≡ listing_of found)

module _ (one : ListingIsOne) where
  -- what was found is listed
  listed : (found : List (List ℕ)) (list : List ℕ) → Contains found list → Contains (listing_of found) list
  listed found list contains = (((one found (listing_of found)).1 refl).exact list).1 contains

  module _ (q : Query) where
    -- a list of the query has a number
    list_numbered : (list : List ℕ) → Contains (found_lists q) list
        → (list_number q list < length (lists_of q)) × (list_of q (list_number q list) ≡ list)
    list_numbered list found = place_found (lists_of q) list [] (listed (found_lists q) list found)

    -- so has an order
    pub order_numbered : (first : ℕ) (others : List ℕ) → Contains (found_orders q) (first ∷ others)
        → IsNumbered q (order_number q (first ∷ others))
        × (order_of q (order_number q (first ∷ others)) ≡ first ∷ others)
    order_numbered first others found =
        let place = place_found (orders_of q) (first ∷ others) [] (listed (found_orders q) (first ∷ others) found) in
        (omega (arith, place.0), place.1)

    -- the hashed list of a table
    pub table_list_numbered : (t : ℕ) (table : QueryTable) (list : List ℕ) → slice_get q.tables t ≡ Some table
        → table.hashed ≡ Some list
        → (list_number q list < length (lists_of q)) × (list_of q (list_number q list) ≡ list)
    table_list_numbered t table list got hashed =
        let own : Contains (table_lists q) list =
        contains_filter_map (λ x. x.hashed) q.tables t table list got hashed in
        let first = Contains-append_left (table_lists q) (one_each (joined_columns q)) list own in
        list_numbered list (Contains-append_left (table_lists q ++ one_each (joined_columns q))
        (unless_empty q.group_by) list first)

    -- the hashed list of a side of an equality
    pub column_list_numbered : (column : ℕ) → Contains (joined_columns q) column
        → (column_list q column < length (lists_of q)) × (list_of q (column_list q column) ≡ column ∷ [])
    column_list_numbered column joined =
        let own : Contains (one_each (joined_columns q)) (column ∷ []) =
        contains_map (λ number. number ∷ []) (joined_columns q) column joined in
        let first = Contains-append_right (table_lists q) (one_each (joined_columns q)) (column ∷ []) own in
        list_numbered (column ∷ []) (Contains-append_left (table_lists q ++ one_each (joined_columns q))
        (unless_empty q.group_by) (column ∷ []) first)

    -- and its order
    pub column_order_numbered : (column : ℕ) → Contains (joined_columns q) column
        → IsNumbered q (column_order q column) × (order_of q (column_order q column) ≡ (2 * column) ∷ [])
    column_order_numbered column joined =
        let wanted = unless_empty (wanted_order q) in
        let orders = one_each (ascending (joined_columns q)) in
        let order = (2 * column) ∷ [] in
        let ascends : Contains (ascending (joined_columns q)) (2 * column) =
        contains_map (λ c. 2 * c) (joined_columns q) column joined in
        let own : Contains orders order = contains_map (λ number. number ∷ []) (ascending (joined_columns q))
        (2 * column) ascends in
        let first = Contains-append_right wanted orders order own in
        order_numbered (2 * column) [] (Contains-append_left (wanted ++ orders) (unless_empty (ascending q.group_by))
        order first)
