-- Longer orders have greater numbers, and none is empty.
use Rattle.std.proofs.Common.{◌≡◌, ℕ, zero, suc, ◌<◌, ◌≤◌, List, [], ◌∷◌, ◌++◌, length, inl, inr, refl, arith}
use Rattle.std.proofs.Math.Nat.{eq-or-lt_of_le}
use Rattle.std.specs.Prelude.{slice_index_or}
use Rattle.std.specs.Bool.{⊤}
use Rattle.std.specs.Ordering.{nat_cmp, match_ordering}
use Rattle.std.specs.Cmp.{nat_cmp_is}
use Rattle.std.specs.Cmp.Lexicographic.{slice_cmp}
use Rattle.std.specs.BTreeSet.{insert_key}
use Rattle.std.specs.List.Sorted.{IsStrictlySortedBy}
use Rattle.std.specs.declared.cmp.Ordering.{Ordering}
use Rattle.std.specs.declared.cmp.Ordering.TheVariants.{Less, Equal, Greater}
use Rattle.std.proofs.lemmas.Bool.{cases_lt}
use Rattle.std.proofs.lemmas.Map.Keys.{sorted_tail}
use Rattle.std.proofs.lemmas.Map.Views.{All-after_first}
use Rattle.query_core.specs.declared.query.Query.{Query}
use Rattle.request_props.specs.Listing.{list_cmp, listing_of}
use Rattle.request_props.specs.Found.{ascending, wanted_order, joined_columns, one_each, unless_empty, found_orders}
use Rattle.request_props.specs.Numbered.{orders_of, IsNumbered, order_of}
use Rattle.request_props.specs.Satisfied.{BeginsWith}
use Rattle.plan_space.proofs.Codes.{AtMost-refl, AtMost-not_less}
use Rattle.plan_space.proofs.Exchange.{IsOrdered}

-- ---- no order is empty

abbrev IsFilled : List ℕ → Type 0
IsFilled [] = ⊥
IsFilled (x ∷ xs) = ⊤

abbrev AreFilled : List (List ℕ) → Type 0
AreFilled [] = ⊤
AreFilled (list ∷ lists) = IsFilled list × AreFilled lists

filled_put : (lists : List (List ℕ)) (new : List ℕ) → AreFilled lists → IsFilled new
    → AreFilled (insert_key list_cmp lists new)
filled_put [] new all here = (here, tt)
filled_put (x ∷ xs) new all here = elim (list_cmp new x) as
    (λ o. AreFilled (match_ordering o (new ∷ x ∷ xs) (x ∷ xs) (x ∷ insert_key list_cmp xs new))) [
      | Less ↦ (here, all)
      | Equal ↦ all
      | Greater ↦ (all.0, filled_put xs new all.1 here)
    ]

filled_listing : (found : List (List ℕ)) → AreFilled found → AreFilled (listing_of found)
filled_listing [] all = tt
filled_listing (list ∷ others) all = filled_put (listing_of others) list (filled_listing others all.1) all.0

filled_append : (lists others : List (List ℕ)) → AreFilled lists → AreFilled others → AreFilled (lists ++ others)
filled_append [] others all rest = rest
filled_append (list ∷ lists) others all rest = (all.0, filled_append lists others all.1 rest)

filled_alone : (numbers : List ℕ) → AreFilled (one_each numbers)
filled_alone [] = tt
filled_alone (number ∷ numbers) = (tt, filled_alone numbers)

filled_unless : (list : List ℕ) → AreFilled (unless_empty list)
filled_unless [] = tt
filled_unless (x ∷ xs) = (tt, tt)

filled_orders : (q : Query) → AreFilled (orders_of q)
filled_orders q =
    let front = filled_append (unless_empty (wanted_order q)) (one_each (ascending (joined_columns q)))
    (filled_unless (wanted_order q)) (filled_alone (ascending (joined_columns q))) in
    filled_listing (found_orders q) (filled_append _ (unless_empty (ascending q.group_by)) front
    (filled_unless (ascending q.group_by)))

filled_at : (lists : List (List ℕ)) (place : ℕ) → AreFilled lists → place < length lists
    → IsFilled (slice_index_or lists place [])
filled_at [] place all below = absurd (omega (arith, below))
filled_at (list ∷ lists) zero all below = all.0
filled_at (list ∷ lists) (suc place) all below = filled_at lists place all.1 (omega arith)

begins_none : (list : List ℕ) → IsFilled list → BeginsWith [] list → ⊥
begins_none [] filled begins = filled
begins_none (x ∷ xs) filled begins = begins

none_empty : (q : Query) (o : ℕ) → IsNumbered q (suc o) → BeginsWith [] (order_of q (suc o)) → ⊥
none_empty q o numbered begins = begins_none (order_of q (suc o))
    (filled_at (orders_of q) o (filled_orders q) (omega arith)) begins

-- ---- longer orders come later

sorted_at : {K : Type 0} (R : K → K → Ordering) (keys : List K) (i j : ℕ) (d : K) → IsStrictlySortedBy R keys → i < j
    → j < length keys
    → R (slice_index_or keys i d) (slice_index_or keys j d) ≡ Less
sorted_at R [] i j d rises less below = absurd (omega (arith, below))
sorted_at R (key ∷ keys) i zero d rises less below = absurd (omega (arith, less))
sorted_at R (key ∷ keys) zero (suc j) d rises less below = All-after_first R key keys rises j d (omega arith)
sorted_at R (key ∷ keys) (suc i) (suc j) d rises less below =
    sorted_at R keys i j d (sorted_tail R key keys rises) (omega arith) (omega arith)

begins_shorter : (xs ys : List ℕ) → BeginsWith xs ys → length ys ≤ length xs
begins_shorter xs [] begins = omega arith
begins_shorter [] (y ∷ ys) begins = absurd begins
begins_shorter (x ∷ xs) (y ∷ ys) begins = let rest = begins_shorter xs ys begins.1 in omega arith

begins_same : (xs ys : List ℕ) → BeginsWith xs ys → length xs ≤ length ys → xs ≡ ys
begins_same [] [] begins short = refl
begins_same [] (y ∷ ys) begins short = absurd begins
begins_same (x ∷ xs) [] begins short = absurd (omega (arith, short))
begins_same (x ∷ xs) (y ∷ ys) begins short = let rest = begins_same xs ys begins.1 (omega arith) in let first =
    begins.0 in cc

-- an order doesn't come before one that it begins with
begins_later : (xs ys : List ℕ) → BeginsWith xs ys → list_cmp xs ys ≡ Less → ⊥
begins_later xs ys begins less = elim (eq-or-lt_of_le (begins_shorter xs ys begins)) [
  | inl same ↦
      let equal : Equal ≡ nat_cmp (length xs) (length ys) = nat_cmp_is (length xs) (length ys) Equal (omega arith) in
      let lists = begins_same xs ys begins (omega arith) in
      let less' : slice_cmp nat_cmp xs ys ≡ Less = rw (← equal) at less in
      AtMost-not_less ys xs (rw lists (AtMost-refl ys)) less'
  | inr longer ↦
      let greater : Greater ≡ nat_cmp (length xs) (length ys) = nat_cmp_is (length xs) (length ys) Greater longer in
      let less' : Greater ≡ Less = rw (← greater) at less in
      cc
]

by_length : (q : Query) → IsStrictlySortedBy list_cmp (orders_of q) → (o p : ℕ) → IsNumbered q o → IsNumbered q p
    → BeginsWith (order_of q p) (order_of q o) → o ≤ p
by_length q rises zero p o_numbered p_numbered begins = omega arith
by_length q rises (suc o) zero o_numbered p_numbered begins = absurd (none_empty q o o_numbered begins)
by_length q rises (suc o) (suc p) o_numbered p_numbered begins = elim (cases_lt p o) [
  | inl before ↦ absurd (begins_later (order_of q (suc p)) (order_of q (suc o)) begins
      (sorted_at list_cmp (orders_of q) p o [] rises before (omega arith)))
  | inr later ↦ omega arith
]

-- where the orders of a query rise, longer ones have greater numbers, and none is empty
pub is_ordered : (q : Query) → IsStrictlySortedBy list_cmp (orders_of q) → IsOrdered q
is_ordered q rises = record { by_length = by_length q rises; none_empty = none_empty q }
