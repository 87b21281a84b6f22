-- Lists of words to which one word comes.
use Rattle.std.proofs.Common.{◌≡◌, ℕ, ◌+◌, ◌<◌, ◌≤◌, List, [], ◌∷◌, ◌++◌, length, take, get_or, refl, ap, sym, subst}
use Rattle.std.proofs.Common.{◌∙◌, arith, zero, suc, inl, inr, ◌⊎◌, length-take}
use Rattle.std.specs.Prelude.{◌-◌, false, Result, Ok, Err, IfOk}
use Rattle.std.specs.Result.{is_err}
use Rattle.std.specs.List.{Contains, All, HoldsAt}
use Rattle.std.specs.List.Sorted.{IsStrictlyIncreasing, IsSearchInRange}
use Rattle.std.specs.BTreeSet.{insert_key}
use Rattle.std.specs.Ordering.{nat_cmp, match_ordering}
use Rattle.std.specs.declared.cmp.Ordering.{Ordering}
use Rattle.std.proofs.lemmas.List.{get_or-take, get_or_default, take_more}
use Rattle.std.proofs.lemmas.List.Elements.{All-contains, Contains-get_or, Contains-push, Contains-push_cases}
use Rattle.std.proofs.lemmas.List.Kept.{AllPairs-from_increasing}
use Rattle.query_core.proofs.Rising.{rises_push}
use Rattle.query_core.proofs.Contained.{contains_here, contains_later, contains_cases}
use Rattle.plan_search.specs.Steps.{AreOthers}
use Rattle.std.proofs.Math.Nat.{eq-zero-or-pos}
use Rattle.std.proofs.lemmas.Map.Lookups.{exact_unsigned}
use Rattle.std.specs.declared.cmp.Ordering.TheVariants.{Less, Equal, Greater}

-- what stands in a list stays there when one word comes behind
pub contains_before : (xs : List ℕ) (x w : ℕ) → Contains xs w → Contains (xs ++ x ∷ []) w
contains_before [] x w (k, within, is) = absurd (omega (arith, within))
contains_before (y ∷ ys) x w (zero, within, is) = (zero, omega arith, is)
contains_before (y ∷ ys) x w (suc k, within, is) =
    contains_later y (ys ++ x ∷ []) w (contains_before ys x w (k, omega (arith, within), is))

-- a word that comes leaves the others there
pub insert_keeps : (xs : List ℕ) (k w : ℕ) → Contains xs w → Contains (insert_key nat_cmp xs k) w
insert_keeps [] k w (i, within, is) = absurd (omega (arith, within))
insert_keeps (x ∷ xs) k w has =
    elim (nat_cmp k x) as (λ o. Contains (match_ordering o (k ∷ x ∷ xs) (x ∷ xs) (x ∷ insert_key nat_cmp xs k)) w) [
      | Less ↦ contains_later k (x ∷ xs) w has
      | Equal ↦ has
      | Greater ↦ elim (contains_cases x xs w has) [
        | inl same ↦ subst (λ v. Contains (x ∷ insert_key nat_cmp xs k) v) same
            (contains_here x (insert_key nat_cmp xs k))
        | inr later ↦ contains_later x (insert_key nat_cmp xs k) w (insert_keeps xs k w later)
      ]
    ]

-- the list gets no shorter, and where it gets no longer it stays as it was
pub insert_longer : (xs : List ℕ) (k : ℕ) → length xs ≤ length (insert_key nat_cmp xs k)
insert_longer [] k = omega arith
insert_longer (x ∷ xs) k =
    elim (nat_cmp k x) as (λ o. length (x ∷ xs) ≤ length
    (match_ordering o (k ∷ x ∷ xs) (x ∷ xs) (x ∷ insert_key nat_cmp xs k))) [
      | Less ↦ omega arith
      | Equal ↦ omega arith
      | Greater ↦ omega (arith, insert_longer xs k)
    ]

pub insert_same : (xs : List ℕ) (k : ℕ) → length (insert_key nat_cmp xs k) ≤ length xs → insert_key nat_cmp xs k ≡ xs
insert_same [] k no_longer = absurd (omega (arith, no_longer))
insert_same (x ∷ xs) k no_longer =
    let at_place : length (match_ordering (nat_cmp k x) (k ∷ x ∷ xs) (x ∷ xs) (x ∷ insert_key nat_cmp xs k)) ≤ length
    (x ∷ xs)
    → match_ordering (nat_cmp k x) (k ∷ x ∷ xs) (x ∷ xs) (x ∷ insert_key nat_cmp xs k) ≡ x ∷ xs =
    elim (nat_cmp k x) as (λ o. length (match_ordering o (k ∷ x ∷ xs) (x ∷ xs) (x ∷ insert_key nat_cmp xs k)) ≤ length
    (x ∷ xs)
    → match_ordering o (k ∷ x ∷ xs) (x ∷ xs) (x ∷ insert_key nat_cmp xs k) ≡ x ∷ xs) [
      | Less ↦ λ fits. absurd (omega (arith, fits))
      | Equal ↦ λ fits. refl
      | Greater ↦ λ fits. ap (λ ys. x ∷ ys) (insert_same xs k (omega (arith, fits)))
    ] in
    at_place no_longer

-- the word is there then
pub insert_there : (xs : List ℕ) (k : ℕ) → Contains (insert_key nat_cmp xs k) k
insert_there [] k = contains_here k []
insert_there (x ∷ xs) k =
    let at_place : (o : Ordering) → nat_cmp k x ≡ o
    → Contains (match_ordering o (k ∷ x ∷ xs) (x ∷ xs) (x ∷ insert_key nat_cmp xs k)) k =
    λ o. elim o as (λ o. nat_cmp k x ≡ o → Contains
    (match_ordering o (k ∷ x ∷ xs) (x ∷ xs) (x ∷ insert_key nat_cmp xs k)) k) [
      | Less ↦ λ same. contains_here k (x ∷ xs)
      | Equal ↦ λ same. subst (λ v. Contains (x ∷ xs) v) (sym (exact_unsigned k x same)) (contains_here x xs)
      | Greater ↦ λ same. contains_later x (insert_key nat_cmp xs k) k (insert_there xs k)
    ] in
    at_place (nat_cmp k x) refl

-- the element at a place of an ascending list is at least the place
at_least_place : (xs : List ℕ) → IsStrictlyIncreasing xs → (k : ℕ) → k < length xs → k ≤ get_or xs k 0
at_least_place xs ascending zero within = omega arith
at_least_place xs ascending (suc k) within =
    let next : k + 1 ≡ suc k = omega arith in
    let below : get_or xs k 0 < get_or xs (suc k) 0 =
    subst (λ i. get_or xs k 0 < get_or xs i 0) next (ascending k (omega (arith, within))) in
    omega (arith, at_least_place xs ascending k (omega (arith, within)), below)

-- so an ascending list of numbers below a bound is no longer than the bound
pub few_words : (xs : List ℕ) (bound : ℕ) → IsStrictlyIncreasing xs → All (λ w. w < bound) xs → length xs ≤ bound
few_words xs bound ascending below = elim (eq-zero-or-pos (length xs)) [
  | inl none ↦ omega (arith, none)
  | inr some ↦
      let last = length xs - 1 in
      omega (arith, some, at_least_place xs ascending last (omega (arith, some)), below last 0 (omega (arith, some)))
]

-- nothing else comes
pub insert_cases : (xs : List ℕ) (k w : ℕ) → Contains (insert_key nat_cmp xs k) w → Contains xs w ⊎ (k ≡ w)
insert_cases [] k w has = elim (contains_cases k [] w has) [
  | inl same ↦ inr same
  | inr later ↦ inl later
]
insert_cases (x ∷ xs) k w has =
    let at_place : Contains (match_ordering (nat_cmp k x) (k ∷ x ∷ xs) (x ∷ xs) (x ∷ insert_key nat_cmp xs k)) w
    → Contains (x ∷ xs) w ⊎ (k ≡ w) =
    elim (nat_cmp k x) as (λ o. Contains (match_ordering o (k ∷ x ∷ xs) (x ∷ xs) (x ∷ insert_key nat_cmp xs k)) w
    → Contains (x ∷ xs) w ⊎ (k ≡ w)) [
      | Less ↦ λ among. elim (contains_cases k (x ∷ xs) w among) [
        | inl same ↦ inr same
        | inr later ↦ inl later
      ]
      | Equal ↦ λ among. inl among
      | Greater ↦ λ among. elim (contains_cases x (insert_key nat_cmp xs k) w among) [
        | inl same ↦ inl (subst (λ v. Contains (x ∷ xs) v) same (contains_here x xs))
        | inr later ↦ elim (insert_cases xs k w later) [
          | inl old ↦ inl (contains_later x xs w old)
          | inr new ↦ inr new
        ]
      ]
    ] in
    at_place has

-- ---- those of ascending words that aren't among others

-- what a search finds is there
pub found_there : (some : List ℕ) (w : ℕ) (found : Result ℕ ℕ) → is_err found ≡ false
    → IsSearchInRange found (length some)
    → IfOk found (HoldsAt (λ y. nat_cmp y w ≡ Equal) some) → Contains some w
found_there some w (Ok k) fine within holds = (k, within, exact_unsigned (get_or some k w) w (holds w))
found_there some w (Err k) fails within holds = absurd (cc)

module _ (words : List ℕ) (i : ℕ) (within : i < length words) where
  -- the words up to one more place
  take_cases : (w : ℕ) → Contains (take (i + 1) words) w → Contains (take i words) w ⊎ (get_or words i 0 ≡ w)
  take_cases w there = Contains-push_cases (take i words) (get_or words i 0) w
      (subst (λ xs. Contains xs w) (take_more words i 0 within) there)

  take_earlier : (w : ℕ) → Contains (take i words) w → Contains (take (i + 1) words) w
  take_earlier w there = subst (λ xs. Contains xs w) (sym (take_more words i 0 within))
      (contains_before (take i words) (get_or words i 0) w there)

  take_here : Contains (take (i + 1) words) (get_or words i 0)
  take_here = subst (λ xs. Contains xs (get_or words i 0)) (sym (take_more words i 0 within))
      (Contains-push (take i words) (get_or words i 0))

  -- earlier ones are below
  below_here : IsStrictlyIncreasing words → (w : ℕ) → Contains (take i words) w → w < get_or words i 0
  below_here ascending w (k, inside, is) =
      let before : k < i = omega (arith, inside, length-take i words) in
      let value : get_or words k 0 ≡ w = sym (get_or-take i words k 0 before)
      ∙ get_or_default (take i words) k 0 w inside ∙ is in
      omega (arith, value, AllPairs-from_increasing words ascending k i 0 before within)

  -- the word is one of some, or comes
  module _ (some new : List ℕ) (before : AreOthers (take i words) some new) where
    pub others_same : Contains some (get_or words i 0) → AreOthers (take (i + 1) words) some new
    others_same known = record {
      covers = λ w there. elim (take_cases w there) [
        | inl earlier ↦ before.covers w earlier
        | inr here ↦ inl (subst (Contains some) here known)
      ];
      part = λ k d inside. take_earlier (get_or new k d) (before.part k d inside);
      ascending = before.ascending;
    }

    pub others_more : IsStrictlyIncreasing words → AreOthers (take (i + 1) words) some (new ++ get_or words i 0 ∷ [])
    others_more ascending = record {
      covers = λ w there. elim (take_cases w there) [
        | inl earlier ↦ elim (before.covers w earlier) [
          | inl known ↦ inl known
          | inr taken ↦ inr (contains_before new (get_or words i 0) w taken)
        ]
        | inr here ↦ inr (subst (Contains (new ++ get_or words i 0 ∷ [])) here (Contains-push new (get_or words i 0)))
      ];
      part = λ k d inside. elim (Contains-push_cases new (get_or words i 0) _
          (Contains-get_or (new ++ get_or words i 0 ∷ []) k d inside)) [
            | inl earlier ↦ take_earlier _ (All-contains (Contains (take i words)) new _ before.part earlier)
            | inr here ↦ subst (Contains (take (i + 1) words)) here take_here
          ];
      ascending =
          rises_push new (get_or words i 0) before.ascending
          (λ w there. below_here ascending w (All-contains (Contains (take i words)) new w before.part there));
    }

-- before the first word nothing has been taken
pub others_none : (words some : List ℕ) → AreOthers (take 0 words) some []
others_none words some = record {
  covers = λ w (k, within, is). absurd (omega (arith, within));
  part = λ k d within. absurd (omega (arith, within));
  ascending = λ k within. absurd (omega (arith, within));
}
