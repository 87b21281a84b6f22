-- Lists in strict order, and that their elements determine them.
use Rattle.std.proofs.Common.{◌≡◌, true, ℕ, List, [], ◌∷◌, length, ◌↔◌, refl, sym, ap, ◌∙◌, subst, arith}
use Rattle.std.specs.List.{Contains, dedup}
use Rattle.std.specs.List.Sorted.{IsStrictlySortedBy, IsSorted, IsPermutation}
use Rattle.std.specs.Ordering.{nat_cmp, ordering_reverse, ordering_then, is_eq, eq_by_cmp}
use Rattle.std.specs.Cmp.{IsTotalOrder}
use Rattle.std.specs.Cmp.Lexicographic.{slice_cmp}
use Rattle.std.specs.declared.cmp.Ordering.{Ordering}
use Rattle.std.specs.declared.cmp.Ordering.TheVariants.{Less, Equal, Greater}
use Rattle.std.proofs.lemmas.Cmp.{then_total, on_total, nat_cmp_total, nat_list_cmp_total, eq_by_cmp_equiv}
use Rattle.std.proofs.lemmas.List.Kept.{Contains-dedup, Contains-from_dedup, IsStrictlySortedBy-dedup}
use Rattle.std.proofs.lemmas.List.Sorted.{Contains-permutation, IsPermutation-sym}
use Rattle.std.proofs.lemmas.Map.Lookups.{exact_bytes}
use Rattle.std.proofs.lemmas.Map.Made.{Contains-tail}
use Rattle.std.proofs.lemmas.Map.Keys.{sorted_tail}
use Rattle.std.proofs.lemmas.Map.Views.{All-after_first}
use Rattle.std.proofs.lemmas.List.Elements.{Contains-append_right}
use Rattle.request_props.specs.Listing.{list_cmp, IsListing}

-- lists are in a total order
pub list_cmp_total : IsTotalOrder list_cmp
list_cmp_total = then_total (on_total (λ (list : List ℕ). length list) nat_cmp_total) nat_list_cmp_total

second_equal : (first second : Ordering) → ordering_then first second ≡ Equal → second ≡ Equal
second_equal Less second is = cc
second_equal Equal second is = is
second_equal Greater second is = cc

-- lists that it doesn't tell apart are the same
pub list_cmp_exact : (a b : List ℕ) → list_cmp a b ≡ Equal → a ≡ b
list_cmp_exact a b is = exact_bytes a b (second_equal (nat_cmp (length a) (length b)) (slice_cmp nat_cmp a b) is)

equal_from_is : (o : Ordering) → is_eq o ≡ true → o ≡ Equal
equal_from_is Less is = cc
equal_from_is Equal is = refl
equal_from_is Greater is = cc

pub same_exact : (a b : List ℕ) → eq_by_cmp list_cmp a b ≡ true → a ≡ b
same_exact a b is = list_cmp_exact a b (equal_from_is (list_cmp a b) is)

pub in_tail : {K : Type 0} (x : K) (xs : List K) (y : K) → Contains xs y → Contains (x ∷ xs) y
in_tail x xs y within = Contains-append_right (x ∷ []) xs y within

pub in_front : {K : Type 0} (x : K) (xs : List K) → Contains (x ∷ xs) x
in_front x xs = (0, omega arith, refl)

module _ {K : Type 0} {R : K → K → Ordering} (order : IsTotalOrder R) (exact : (x y : K) → R x y ≡ Equal → x ≡ y) where
  -- nothing is below itself
  not_below_itself : (x : K) → R x x ≡ Less → ⊥
  not_below_itself x below = let turned : Less ≡ Greater = sym below ∙ order.antisymm x x ∙ ap ordering_reverse below in
      cc

  -- the first is below each later one
  below_later : (x : K) (xs : List K) (y : K) → IsStrictlySortedBy R (x ∷ xs) → Contains xs y → R x y ≡ Less
  below_later x xs y rises within =
      subst (λ (z : K). R x z ≡ Less) within.2 (All-after_first R x xs rises within.0 y within.1)

  -- what is below the first is not there
  none_below_first : (x : K) (xs : List K) (y : K) → IsStrictlySortedBy R (x ∷ xs) → Contains (x ∷ xs) y → R y x ≡ Less
      → ⊥
  none_below_first x xs y rises within below =
      let later = below_later x xs y rises (Contains-tail x xs y
      (λ same. not_below_itself x (subst (λ (z : K). R z x ≡ Less) (sym same) below)) within) in
      let turned : Less ≡ Greater = sym below ∙ order.antisymm y x ∙ ap ordering_reverse later in
      cc

  -- behind one first element the same elements stand
  same_later : (x : K) (xs ys : List K) → IsStrictlySortedBy R (x ∷ xs)
      → ((z : K) → Contains (x ∷ xs) z → Contains (x ∷ ys) z)
      → (z : K) → Contains xs z → Contains ys z
  same_later x xs ys rises all z within =
      Contains-tail x ys z (λ same. not_below_itself x
      (subst (λ (w : K). R x w ≡ Less) (sym same) (below_later x xs z rises within)))
      (all z (in_tail x xs z within))

  -- the first elements are the same, and then what is behind them is
  by_first : (x y : K) (xs ys : List K) → IsStrictlySortedBy R (x ∷ xs) → IsStrictlySortedBy R (y ∷ ys)
      → ((z : K) → Contains (x ∷ xs) z ↔ Contains (y ∷ ys) z) → (x ≡ y → xs ≡ ys) → (o : Ordering) → R x y ≡ o
      → x ∷ xs ≡ y ∷ ys
  by_first x y xs ys rises others same later Less is =
      absurd (none_below_first y ys x others ((same x).0 (in_front x xs)) is)
  by_first x y xs ys rises others same later Equal is = let first = exact x y is in let rest = later first in cc
  by_first x y xs ys rises others same later Greater is =
      absurd (none_below_first x xs y rises ((same y).1 (in_front y ys)) (order.antisymm y x ∙ ap ordering_reverse is))

  -- lists in strict order with the same elements are one
  pub one_in_order : (xs ys : List K) → IsStrictlySortedBy R xs → IsStrictlySortedBy R ys
      → ((z : K) → Contains xs z ↔ Contains ys z) → xs ≡ ys
  one_in_order [] [] rises others same = refl
  one_in_order [] (y ∷ ys) rises others same = let none = (same y).1 (in_front y ys) in absurd (omega (arith, none.1))
  one_in_order (x ∷ xs) [] rises others same = let none = (same x).0 (in_front x xs) in absurd (omega (arith, none.1))
  one_in_order (x ∷ xs) (y ∷ ys) rises others same =
      let later = λ (first : x ≡ y).
      let others' = subst (λ (z : K). IsStrictlySortedBy R (z ∷ ys)) (sym first) others in
      let same' = subst (λ (z : K). (w : K) → Contains (x ∷ xs) w ↔ Contains (z ∷ ys) w) (sym first) same in
      one_in_order xs ys (sorted_tail R x xs rises) (sorted_tail R y ys others)
      (λ z. (same_later x xs ys rises (λ w. (same' w).0) z, same_later x ys xs others' (λ w. (same' w).1) z)) in
      by_first x y xs ys rises others same later (R x y) refl

-- lists that were found have one listing
pub one_listing : (found a b : List (List ℕ)) → IsListing found a → IsListing found b → a ≡ b
one_listing found a b x y =
    one_in_order list_cmp_total list_cmp_exact a b x.rises y.rises
    (λ list. (
      λ within. (y.exact list).1 ((x.exact list).0 within),
      λ within.
          (x.exact list).1 ((y.exact list).0 within),
    ))

-- what was found, sorted and with one of each run of equal lists, is a listing
pub sorted_listing : (found sorted : List (List ℕ)) → IsPermutation found sorted → IsSorted list_cmp sorted
    → IsListing found (dedup (eq_by_cmp list_cmp) sorted)
sorted_listing found sorted moved rises = record {
  rises = IsStrictlySortedBy-dedup list_cmp_total (λ x y. refl) sorted rises;
  exact = λ list. (
    λ within. Contains-permutation sorted found list (IsPermutation-sym found sorted moved)
        (Contains-from_dedup (eq_by_cmp list_cmp) sorted list within),
    λ within. Contains-dedup (eq_by_cmp_equiv list_cmp_total) same_exact sorted list
        (Contains-permutation found sorted list moved within),
  );
}
