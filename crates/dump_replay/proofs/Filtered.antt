-- What of a list stays where some of it is kept.
use Rattle.std.proofs.Common.{◌≡◌, ℕ, ◌+◌, Bool, true, false, not, cond, List, [], ◌∷◌, map, filter, Some, refl}
use Rattle.std.proofs.Common.{sym, ap, ◌∙◌, arith}
use Rattle.std.specs.List.{find, fold, list_all, list_any}
use Rattle.std.proofs.lemmas.Bool.{false≢true, and_parts}
use Rattle.query_core.specs.Differ.{all_differ}

-- what is looked for is found among what is kept, where that keeps all that is looked for
pub find_kept : {X : Type 0} (wanted kept : X → Bool) (xs : List X) → ((x : X) → wanted x ≡ true → kept x ≡ true)
    → find wanted (filter kept xs) ≡ find wanted xs
find_kept wanted kept [] keeps = refl
find_kept wanted kept (x ∷ xs) keeps = by_tests (kept x) (wanted x) refl refl (find_kept wanted kept xs keeps)
  where
    by_tests : (k w : Bool) → kept x ≡ k → wanted x ≡ w → find wanted (filter kept xs) ≡ find wanted xs
        → find wanted (filter kept (x ∷ xs)) ≡ find wanted (x ∷ xs)
    by_tests true w is looked rest = rw is (ap (cond (wanted x) (Some x)) rest)
    by_tests false true is looked rest = absurd (false≢true (sym is ∙ keeps x looked))
    by_tests false false is looked rest = rw (is, looked) rest

-- what no element is, no element that is kept is
none_kept : {X Y : Type 0} (test : Y → Bool) (seen : X → Y) (kept : X → Bool) (xs : List X)
    → list_any test (map seen xs) ≡ false → list_any test (map seen (filter kept xs)) ≡ false
none_kept test seen kept [] none = refl
none_kept test seen kept (x ∷ xs) none =
    by_tests (test (seen x)) (kept x) refl refl (λ rest. none_kept test seen kept xs rest)
  where
    by_tests : (t k : Bool) → test (seen x) ≡ t → kept x ≡ k
        → (list_any test (map seen xs) ≡ false → list_any test (map seen (filter kept xs)) ≡ false)
        → list_any test (map seen (filter kept (x ∷ xs))) ≡ false
    by_tests true k here is rest = absurd (false≢true (sym (rw here at none)))
    by_tests false true here is rest = rw (is, here) (rest (rw here at none))
    by_tests false false here is rest = rw is (rest (rw here at none))

-- elements that differ still do where some are kept
pub differ_kept : {X Y : Type 0} (same : Y → Y → Bool) (seen : X → Y) (kept : X → Bool) (xs : List X)
    → all_differ same (map seen xs) ≡ true → all_differ same (map seen (filter kept xs)) ≡ true
differ_kept same seen kept [] differ = refl
differ_kept same seen kept (x ∷ xs) differ =
    by_test (kept x) refl (λ apart. differ_kept same seen kept xs apart)
  where
    parts : (not (list_any (same (seen x)) (map seen xs)) ≡ true) × (all_differ same (map seen xs) ≡ true)
    parts = and_parts (not (list_any (same (seen x)) (map seen xs))) (all_differ same (map seen xs)) differ

    unlike : (b : Bool) → not b ≡ true → b ≡ false
    unlike true h = absurd (false≢true h)
    unlike false h = refl

    by_test : (k : Bool) → kept x ≡ k
        → (all_differ same (map seen xs) ≡ true → all_differ same (map seen (filter kept xs)) ≡ true)
        → all_differ same (map seen (filter kept (x ∷ xs))) ≡ true
    by_test true is rest = rw (
      is,
      none_kept (same (seen x)) seen kept xs (unlike (list_any (same (seen x)) (map seen xs)) parts.0),
    ) (rest parts.1)
    by_test false is rest = rw is (rest parts.1)

-- what all are, all that are kept are
pub all_kept : {X : Type 0} (test kept : X → Bool) (xs : List X) → list_all test xs ≡ true
    → list_all test (filter kept xs) ≡ true
all_kept test kept [] all = refl
all_kept test kept (x ∷ xs) all = by_test (kept x) refl (λ others. all_kept test kept xs others)
  where
    parts : (test x ≡ true) × (list_all test xs ≡ true)
    parts = and_parts (test x) (list_all test xs) all

    by_test : (k : Bool) → kept x ≡ k → (list_all test xs ≡ true → list_all test (filter kept xs) ≡ true)
        → list_all test (filter kept (x ∷ xs)) ≡ true
    by_test true is rest = rw (is, parts.0) (rest parts.1)
    by_test false is rest = rw is (rest parts.1)

-- the sum over what is kept is a sum over all, to which the others add nothing
pub sum_kept : {X : Type 0} (f : X → ℕ) (kept : X → Bool) (from : ℕ) (xs : List X)
    → fold (λ a x. a + f x) from (filter kept xs) ≡ fold (λ a x. a + cond (kept x) (f x) 0) from xs
sum_kept f kept from [] = refl
sum_kept f kept from (x ∷ xs) = by_test (kept x) refl (λ more. sum_kept f kept more xs)
  where
    by_test : (k : Bool) → kept x ≡ k
        → ((more : ℕ) → fold (λ a y. a + f y) more (filter kept xs)
        ≡ fold (λ a y. a + cond (kept y) (f y) 0) more xs)
        → fold (λ a y. a + f y) from (filter kept (x ∷ xs)) ≡ fold (λ a y. a + cond (kept y) (f y) 0) from (x ∷ xs)
    by_test true is rest = rw is (rest (from + f x))
    by_test false is rest = rw is (let none : from + 0 ≡ from = omega arith in rw none (rest from))
