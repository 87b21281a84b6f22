-- The numbered orders of a query, and orders that begin with others.
use Rattle.std.proofs.Common.{◌≡◌, ℕ, zero, suc, ◌*◌, ◌<◌, ◌≤◌, ◌⊎◌, List, [], ◌∷◌, ◌++◌, length, map, inl, inr, refl}
use Rattle.std.proofs.Common.{sym, ap, subst, ◌∙◌, arith, false, bytes_eq}
use Rattle.std.specs.Prelude.{slice_index_or}
use Rattle.std.specs.List.{Contains, position_or_len}
use Rattle.std.proofs.lemmas.Bool.{cases_lt, false≢true}
use Rattle.std.proofs.lemmas.List.Sums.{fails_before_first, passes_at_first}
use Rattle.std.proofs.lemmas.Slice.Eq.{bytes_eq-Decides}
use Rattle.std.proofs.Math.ListN.{get_or-eq_default}
use Rattle.std.proofs.lemmas.List.Elements.{Contains-append_left, Contains-get_or}
use Rattle.query_core.specs.declared.query.Query.{Query}
use Rattle.query_core.specs.declared.output.OrderKey.{OrderKey}
use Rattle.request_props.specs.declared.props.Props.{Props}
use Rattle.request_props.specs.Found.{elements_of, ascending, wanted_order, joined_columns, one_each, unless_empty}
use Rattle.request_props.specs.Found.{found_orders}
use Rattle.request_props.specs.Ends.{IsGivenBy}
use Rattle.request_props.specs.Numbered.{order_among, order_of, orders_of, order_number, column_order, IsNumberOf}
use Rattle.request_props.specs.Satisfied.{BeginsWith}
use Rattle.request_props.proofs.Inserted.{listing_made}

-- the elements of the order at a place
elements_at : (orders : List (List OrderKey)) (place : ℕ) (d : List OrderKey) → place < length orders
    → elements_of (slice_index_or orders place d) ≡ slice_index_or (map elements_of orders) place []
elements_at [] place d within = absurd (omega (arith, within))
elements_at (order ∷ orders) zero d within = refl
elements_at (order ∷ orders) (suc place) d within = elements_at orders place d (omega (arith, within))

-- the order with a number stands one place before it
pub order_at : (props : Props) (number place : ℕ) (d : List OrderKey) → number ≡ suc place
    → number ≤ length props.orders
    → elements_of (slice_index_or props.orders place d) ≡ order_among (map elements_of props.orders) number
order_at props number place d next within = rw next (elements_at props.orders place d (omega (arith, next, within)))

itself_unless_empty : (list : List ℕ) → (list ≡ []) ⊎ Contains (unless_empty list) list
itself_unless_empty [] = inl refl
itself_unless_empty (first ∷ others) = inr (0, omega arith, refl)

-- the order of ORDER BY is empty, or one of those that were found
wanted_known : (q : Query) → (wanted_order q ≡ []) ⊎ Contains (orders_of q) (wanted_order q)
wanted_known q = elim (itself_unless_empty (wanted_order q)) [
  | inl empty ↦ inl empty
  | inr within ↦
      let front = Contains-append_left (unless_empty (wanted_order q)) (one_each (ascending (joined_columns q)))
      (wanted_order q) within in
      let found = Contains-append_left (unless_empty (wanted_order q) ++ one_each (ascending (joined_columns q)))
      (unless_empty (ascending q.group_by)) (wanted_order q) front in
      inr (((listing_made (found_orders q)).exact (wanted_order q)).1 found)
]

-- what stands at the first place of a list is the list, or there is none and it is empty
itself_or_empty : (lists : List (List ℕ)) (list : List ℕ)
    → (slice_index_or lists (position_or_len (bytes_eq list) lists) [] ≡ list)
    ⊎ (slice_index_or lists (position_or_len (bytes_eq list) lists) [] ≡ [])
itself_or_empty lists list =
    let place = position_or_len (bytes_eq list) lists in
    elim (cases_lt place (length lists)) [
      | inl below ↦ inl (sym ((bytes_eq-Decides list (slice_index_or lists place [])).0
          (passes_at_first (bytes_eq list) lists [] below)))
      | inr beyond ↦ inr (get_or-eq_default lists [] beyond)
    ]

-- what has its first place below the end stands there
pub list_at : (lists : List (List ℕ)) (list : List ℕ) (place : ℕ) → position_or_len (bytes_eq list) lists ≡ place
    → place < length lists → slice_index_or lists place [] ≡ list
list_at lists list place is below =
    let first = position_or_len (bytes_eq list) lists in
    let within : first < length lists = omega (arith, is, below) in
    ap (λ (k : ℕ). slice_index_or lists k []) (sym is)
    ∙ sym ((bytes_eq-Decides list (slice_index_or lists first [])).0
    (passes_at_first (bytes_eq list) lists [] within))

begins_empty : (order wanted : List ℕ) → order ≡ [] → BeginsWith order wanted → wanted ≡ []
begins_empty order [] is begins = refl
begins_empty [] (y ∷ ys) is begins = absurd begins
begins_empty (x ∷ xs) (y ∷ ys) is begins = cc

begins_alone : (column : ℕ) (wanted : List ℕ) → BeginsWith ((2 * column) ∷ []) wanted → IsGivenBy wanted column
begins_alone column [] begins = inl refl
begins_alone column (y ∷ []) begins = inr (ap (λ x. x ∷ []) (sym begins.0))
begins_alone column (y ∷ z ∷ zs) begins = absurd begins.1

-- an order with which that of a column begins is given by the column
pub begins_given : (q : Query) (column : ℕ) (wanted : List ℕ) → BeginsWith (order_of q (column_order q column)) wanted
    → IsGivenBy wanted column
begins_given q column wanted begins = elim (itself_or_empty (orders_of q) ((2 * column) ∷ [])) [
  | inl is ↦ begins_alone column wanted (subst (λ (order : List ℕ). BeginsWith order wanted) is begins)
  | inr is ↦ inl (begins_empty (order_of q (column_order q column)) wanted is begins)
]

-- what is there has its first place below the end
place_below : (lists : List (List ℕ)) (list : List ℕ) → Contains lists list
    → position_or_len (bytes_eq list) lists < length lists
place_below lists list (k, within, here) =
    let place = position_or_len (bytes_eq list) lists in
    elim (cases_lt place (length lists)) [
      | inl less ↦ less
      | inr beyond ↦
          let fails : bytes_eq list (slice_index_or lists k list) ≡ false =
          fails_before_first (bytes_eq list) lists k list (omega (arith, within, beyond)) in
          absurd (false≢true (sym fails ∙ (bytes_eq-Decides list (slice_index_or lists k list)).1 (sym here)))
    ]

-- an order that is empty, or one of the query's, has its number
number_known : (q : Query) (order : List ℕ) → (order ≡ []) ⊎ Contains (orders_of q) order
    → IsNumberOf (orders_of q) order (order_number q order)
number_known q [] either = record { numbered = omega arith; is_order = refl }
number_known q (first ∷ others) (inl empty) = let wrong : ⊥ = cc in absurd wrong
number_known q (first ∷ others) (inr there) =
    let place = position_or_len (bytes_eq (first ∷ others)) (orders_of q) in
    let below : place < length (orders_of q) = place_below (orders_of q) (first ∷ others) there in
    record { numbered = omega (arith, below); is_order = list_at (orders_of q) (first ∷ others) place refl below }

-- so the order of ORDER BY has its
pub wanted_number : (q : Query) → IsNumberOf (orders_of q) (wanted_order q) (order_number q (wanted_order q))
wanted_number q = number_known q (wanted_order q) (wanted_known q)

-- a list that is not empty, and has a number, is one of the lists
number_there : (lists : List (List ℕ)) (number first : ℕ) (others : List ℕ) → order_among lists number ≡ first ∷ others
    → Contains lists (first ∷ others)
number_there lists zero first others is = cc
number_there lists (suc place) first others is = elim (cases_lt place (length lists)) [
  | inl below ↦ subst (Contains lists) is (Contains-get_or lists place [] below)
  | inr beyond ↦
      let empty : slice_index_or lists place [] ≡ [] = get_or-eq_default lists [] beyond in
      let wrong : ⊥ = cc in
      absurd wrong
]

-- where a column gives an order, that of the column begins with it
pub given_begins : (q : Query) (column number : ℕ) → IsGivenBy (order_of q number) column
    → BeginsWith (order_of q (column_order q column)) (order_of q number)
given_begins q column number (inl empty) = subst (BeginsWith (order_of q (column_order q column))) (sym empty) tt
given_begins q column number (inr alone) =
    let order = (2 * column) ∷ [] in
    let there = number_there (orders_of q) number (2 * column) [] alone in
    let own : order_of q (column_order q column) ≡ order =
    list_at (orders_of q) order (position_or_len (bytes_eq order) (orders_of q)) refl
    (place_below (orders_of q) order there) in
    subst (λ (given : List ℕ). BeginsWith given (order_of q number)) (sym own)
    (subst (BeginsWith order) (sym alone) (refl, tt))

-- no number beyond those that there are is that of an order
pub no_order : (q : Query) (number : ℕ) → length (orders_of q) < number → order_of q number ≡ []
no_order q zero beyond = refl
no_order q (suc place) beyond = get_or-eq_default (orders_of q) [] (omega (arith, beyond))
