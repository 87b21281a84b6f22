-- The listing of the lists that were found, made by putting each at its place.
use Rattle.std.proofs.Common.{◌≡◌, ℕ, zero, suc, ◌<◌, List, [], ◌∷◌, length, ◌↔◌, ◌⊎◌, inl, inr, refl, sym, ap, ◌∙◌}
use Rattle.std.proofs.Common.{subst, arith}
use Rattle.std.specs.Prelude.{slice_index_or}
use Rattle.std.specs.List.{Contains, AllByRecursion}
use Rattle.std.specs.List.Sorted.{IsStrictlySortedBy}
use Rattle.std.specs.BTreeSet.{insert_key}
use Rattle.std.specs.Ordering.{ordering_reverse, match_ordering}
use Rattle.std.specs.Cmp.{IsTotalOrder}
use Rattle.std.specs.declared.cmp.Ordering.{Ordering}
use Rattle.std.specs.declared.cmp.Ordering.TheVariants.{Less, Equal, Greater}
use Rattle.request_props.specs.Listing.{list_cmp, IsListing, listing_of}
use Rattle.request_props.proofs.Ordered.{in_front, in_tail, list_cmp_total, list_cmp_exact, one_listing}

split_at : {K : Type 0} (x : K) (xs : List K) (y : K) (k : ℕ) → k < length (x ∷ xs) → slice_index_or (x ∷ xs) k y ≡ y
    → (x ≡ y) ⊎ Contains xs y
split_at x xs y zero within is = inl is
split_at x xs y (suc k) within is = inr (k, omega (arith, within), is)

-- what is there is the first, or later
split : {K : Type 0} (x : K) (xs : List K) (y : K) → Contains (x ∷ xs) y → (x ≡ y) ⊎ Contains xs y
split x xs y within = split_at x xs y within.0 within.1 within.2

front_same : {K : Type 0} (x : K) (xs : List K) (y : K) → x ≡ y → Contains (x ∷ xs) y
front_same {K} x xs y same = subst (λ (z : K). Contains (x ∷ xs) z) same (in_front x xs)

module _ {K : Type 0} {R : K → K → Ordering} (order : IsTotalOrder R) (exact : (x y : K) → R x y ≡ Equal → x ≡ y) where
  -- a fact of all and of the new one holds of all with the new one
  all_put : (P : K → Type 0) (xs : List K) (new : K) → AllByRecursion P xs → P new
      → AllByRecursion P (insert_key R xs new)
  all_put P [] new all here = (here, tt)
  all_put P (x ∷ xs) new all here = elim (R new x) as
      (λ o. AllByRecursion P (match_ordering o (new ∷ x ∷ xs) (x ∷ xs) (x ∷ insert_key R xs new))) [
        | Less ↦ (here, all)
        | Equal ↦ all
        | Greater ↦ (all.0, all_put P xs new all.1 here)
      ]

  -- what is below the first is below all
  all_below : (new x : K) (xs : List K) → R new x ≡ Less → AllByRecursion (λ y. R x y ≡ Less) xs
      → AllByRecursion (λ y. R new y ≡ Less) xs
  all_below new x [] below all = tt
  all_below new x (y ∷ ys) below all = (order.trans new x y below all.0, all_below new x ys below all.1)

  -- a list in strict order stays so
  rises_put : (xs : List K) (new : K) → IsStrictlySortedBy R xs → IsStrictlySortedBy R (insert_key R xs new)
  unfolding IsStrictlySortedBy
  rises_put [] new rises = (tt, tt)
  rises_put (x ∷ xs) new rises =
      elim (R new x) as (λ o. R new x ≡ o → IsStrictlySortedBy R
      (match_ordering o (new ∷ x ∷ xs) (x ∷ xs) (x ∷ insert_key R xs new))) [
        | Less ↦ λ is. ((is, all_below new x xs is rises.0), rises)
        | Equal ↦ λ is. rises
        | Greater ↦ λ is. (
          all_put (λ y. R x y ≡ Less) xs new rises.0 (order.antisymm x new ∙ ap ordering_reverse is),
          rises_put xs new rises.1,
        )
      ] refl

  -- the new one is there
  put_there : (xs : List K) (new : K) → Contains (insert_key R xs new) new
  put_there [] new = in_front new []
  put_there (x ∷ xs) new = elim (R new x) as (λ o. R new x ≡ o
      → Contains (match_ordering o (new ∷ x ∷ xs) (x ∷ xs) (x ∷ insert_key R xs new)) new) [
        | Less ↦ λ is. in_front new (x ∷ xs)
        | Equal ↦ λ is. front_same x xs new (sym (exact new x is))
        | Greater ↦ λ is. in_tail x (insert_key R xs new) new (put_there xs new)
      ] refl

  -- and what was there still is
  put_kept : (xs : List K) (new y : K) → Contains xs y → Contains (insert_key R xs new) y
  put_kept [] new y within = absurd (omega (arith, within.1))
  put_kept (x ∷ xs) new y within = elim (R new x) as
      (λ o. Contains (match_ordering o (new ∷ x ∷ xs) (x ∷ xs) (x ∷ insert_key R xs new)) y) [
        | Less ↦ in_tail new (x ∷ xs) y within
        | Equal ↦ within
        | Greater ↦ elim (split x xs y within) [
          | inl same ↦ front_same x (insert_key R xs new) y same
          | inr later ↦ in_tail x (insert_key R xs new) y (put_kept xs new y later)
        ]
      ]

  -- nothing else is
  put_only : (xs : List K) (new y : K) → Contains (insert_key R xs new) y → (new ≡ y) ⊎ Contains xs y
  put_only [] new y within = split new [] y within
  put_only (x ∷ xs) new y within =
      elim (R new x) as (λ o. Contains (match_ordering o (new ∷ x ∷ xs) (x ∷ xs) (x ∷ insert_key R xs new)) y
      → (new ≡ y) ⊎ Contains (x ∷ xs) y) [
        | Less ↦ λ here. split new (x ∷ xs) y here
        | Equal ↦ λ here. inr here
        | Greater ↦ λ here. elim (split x (insert_key R xs new) y here) [
          | inl same ↦ inr (front_same x xs y same)
          | inr later ↦ elim (put_only xs new y later) [ inl same ↦ inl same | inr kept ↦ inr (in_tail x xs y kept) ]
        ]
      ] within

rises_all : (found : List (List ℕ)) → IsStrictlySortedBy list_cmp (listing_of found)
unfolding IsStrictlySortedBy
rises_all [] = tt
rises_all (list ∷ others) = rises_put list_cmp_total list_cmp_exact (listing_of others) list (rises_all others)

all_there : (found : List (List ℕ)) (list : List ℕ) → Contains found list → Contains (listing_of found) list
all_there [] list within = absurd (omega (arith, within.1))
all_there (first ∷ others) list within = elim (split first others list within) [
  | inl same ↦ subst (λ (l : List ℕ). Contains (insert_key list_cmp (listing_of others) first) l) same
      (put_there list_cmp_total list_cmp_exact (listing_of others) first)
  | inr later ↦ put_kept list_cmp_total list_cmp_exact (listing_of others) first list (all_there others list later)
]

none_else : (found : List (List ℕ)) (list : List ℕ) → Contains (listing_of found) list → Contains found list
none_else [] list within = absurd (omega (arith, within.1))
none_else (first ∷ others) list within =
    elim (put_only list_cmp_total list_cmp_exact (listing_of others) first list within) [
      | inl same ↦ front_same first others list same
      | inr kept ↦ in_tail first others list (none_else others list kept)
    ]

-- the lists put at their places are a listing
pub listing_made : (found : List (List ℕ)) → IsListing found (listing_of found)
listing_made found = record { rises = rises_all found; exact = λ list. (none_else found list, all_there found list) }

-- and there is no other
pub listing_only : (found lists : List (List ℕ)) → IsListing found lists ↔ (lists ≡ listing_of found)
listing_only found lists = (
  λ listing. one_listing found lists (listing_of found) listing (listing_made found),
  λ same. subst (λ (l : List (List ℕ)). IsListing found l) (sym same) (listing_made found),
)
