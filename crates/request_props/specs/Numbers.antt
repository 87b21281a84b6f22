-- The numbers of the hashed lists and of the orders of a query.
use Rattle.std.specs.Prelude.{ℕ, zero, suc, ◌≤◌, ◌<◌, ◌*◌, List, [], ◌∷◌, length, bytes_eq, slice_index_or}
use Rattle.std.specs.List.{position_or_len}
use Rattle.query_core.specs.declared.query.Query.{Query}
use Rattle.request_props.specs.Listing.{listing_of}
use Rattle.request_props.specs.Found.{found_lists, found_orders}

-- the hashed lists of the query; a list's number is its place
abbrev pub lists_of : Query → List (List ℕ)
lists_of q = listing_of (found_lists q)

-- the orders of the query that have a number, from 1 on
abbrev pub orders_of : Query → List (List ℕ)
orders_of q = listing_of (found_orders q)

-- some hashed list has the number
abbrev pub IsList : Query → ℕ → Type 0
IsList q number = number < length (lists_of q)

-- some order has the number; the empty order has 0
abbrev pub IsNumbered : Query → ℕ → Type 0
IsNumbered q number = number ≤ length (orders_of q)

-- of these orders the one that has the number
abbrev pub order_among : List (List ℕ) → ℕ → List ℕ
order_among orders zero = []
order_among orders (suc place) = slice_index_or orders place []

-- the order that has the number
abbrev pub order_of : Query → ℕ → List ℕ
order_of q number = order_among (orders_of q) number

-- the number of a hashed list of the query
abbrev pub list_number : Query → List ℕ → ℕ
list_number q list = position_or_len (bytes_eq list) (lists_of q)

-- the list that has the number
abbrev pub list_of : Query → ℕ → List ℕ
list_of q number = slice_index_or (lists_of q) number []

-- the number of an order of the query; the empty order has 0
abbrev pub order_number : Query → List ℕ → ℕ
order_number q [] = 0
order_number q (first ∷ others) = suc (position_or_len (bytes_eq (first ∷ others)) (orders_of q))

-- the hashed list of one column
abbrev pub column_list : Query → ℕ → ℕ
column_list q column = list_number q (column ∷ [])

-- the order of one ascending column
abbrev pub column_order : Query → ℕ → ℕ
column_order q column = order_number q ((2 * column) ∷ [])
