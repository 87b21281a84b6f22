-- Sums over lists that change at one place, and how often numbers stand in lists.
use Rattle.std.proofs.Common.{◌≡◌, ℕ, zero, suc, ◌+◌, ◌<◌, ◌≤◌, All, List, [], ◌∷◌, ◌++◌, length, set, cond, eqb}
use Rattle.std.proofs.Common.{sum_by, sym, refl, ap, subst, ◌∙◌, arith}
use Rattle.std.proofs.lemmas.Bool.Decides.{nat_tests}
use Rattle.std.proofs.lemmas.List.Sums.{sum_by-cons, sum_by-append}
use mathlib.Core.Option.{some, some-injective, some-ne-none}
use lib.ListN.{get_elem?}
use Rattle.batch_pool.specs.Rule.{times, once_below, HasEachOnce}

module _ {A : Type 0} where
  all_rest : (P : A → Type 0) (x : A) (xs : List A) → All P (x ∷ xs) → All P xs
  all_rest P x xs h i d near = h (suc i) d (omega arith)

  -- what holds of each holds of the one at a place
  pub all_at : (P : A → Type 0) (l : List A) (j : ℕ) (v : A) → All P l → get_elem? l j ≡ some v → P v
  all_at P [] j v h e = absurd (some-ne-none v (sym e))
  all_at P (x ∷ xs) zero v h e = subst P (some-injective x v e) (h 0 x (omega arith))
  all_at P (x ∷ xs) (suc j) v h e = all_at P xs j v (all_rest P x xs h) e

  -- a sum once one of its terms has changed
  pub sum_by_set_at : (f : A → ℕ) (l : List A) (j : ℕ) (v w : A) → get_elem? l j ≡ some v
      → sum_by f (set l j w) + f v ≡ sum_by f l + f w
  sum_by_set_at f [] j v w e = absurd (some-ne-none v (sym e))
  sum_by_set_at f (x ∷ xs) zero v w e =
      let same : f x ≡ f v = ap f (some-injective x v e) in
      omega (arith, same, sum_by-cons f x xs, sum_by-cons f w xs)
  sum_by_set_at f (x ∷ xs) (suc j) v w e =
      omega (arith, sum_by-cons f x xs, sum_by-cons f x (set xs j w), sum_by_set_at f xs j v w e)

  -- a term is at most the sum
  term_le : (f : A → ℕ) (l : List A) (j : ℕ) (v : A) → get_elem? l j ≡ some v → f v ≤ sum_by f l
  term_le f [] j v e = absurd (some-ne-none v (sym e))
  term_le f (x ∷ xs) zero v e =
      let same : f x ≡ f v = ap f (some-injective x v e) in omega (arith, same, sum_by-cons f x xs)
  term_le f (x ∷ xs) (suc j) v e = omega (arith, sum_by-cons f x xs, term_le f xs j v e)

  -- where each without parts adds nothing, and one has all parts, it adds all
  module _ (f parts : A → ℕ) where
    sum_by_none : (l : List A) → All (λ v. parts v ≡ 0 → f v ≡ 0) l → sum_by parts l ≡ 0 → sum_by f l ≡ 0
    sum_by_none [] h none = refl
    sum_by_none (x ∷ xs) h none =
        let sums = sum_by-cons parts x xs in
        let first : f x ≡ 0 = h 0 x (omega arith) (omega (arith, sums, none)) in
        let rest = sum_by_none xs (all_rest (λ v. parts v ≡ 0 → f v ≡ 0) x xs h) (omega (arith, sums, none)) in
        omega (arith, sum_by-cons f x xs, first, rest)

    pub sum_by_all : (l : List A) (j : ℕ) (v : A) → All (λ v. parts v ≡ 0 → f v ≡ 0) l → get_elem? l j ≡ some v
        → sum_by parts l ≡ parts v → sum_by f l ≡ f v
    sum_by_all [] j v h e all = absurd (some-ne-none v (sym e))
    sum_by_all (x ∷ xs) zero v h e all =
        let is = some-injective x v e in
        let same : parts x ≡ parts v = ap parts is in
        let here : f x ≡ f v = ap f is in
        let sums = sum_by-cons parts x xs in
        let rest = sum_by_none xs (all_rest (λ v. parts v ≡ 0 → f v ≡ 0) x xs h) (omega (arith, sums, all, same)) in
        omega (arith, sum_by-cons f x xs, here, rest)
    sum_by_all (x ∷ xs) (suc j) v h e all =
        let few = term_le parts xs j v e in
        let sums = sum_by-cons parts x xs in
        let first : f x ≡ 0 = h 0 x (omega arith) (omega (arith, sums, all, few)) in
        let rest = sum_by_all xs j v (all_rest (λ v. parts v ≡ 0 → f v ≡ 0) x xs h) e (omega (arith, sums, all, few)) in
        omega (arith, sum_by-cons f x xs, first, rest)

pub times-append : (x : ℕ) (l m : List ℕ) → times x (l ++ m) ≡ times x l + times x m
times-append x l m = sum_by-append (λ y. cond (eqb y x) 1 0) l m

pub times-cons : (x y : ℕ) (ys : List ℕ) → times x (y ∷ ys) ≡ cond (eqb y x) 1 0 + times x ys
times-cons x y ys = sum_by-cons (λ y. cond (eqb y x) 1 0) y ys

-- one number more below the count
pub once_more : (n x : ℕ) → once_below (n + 1) x ≡ once_below n x + cond (eqb n x) 1 0
once_more n x = grind (arith, nat_tests)

-- the values of f at the numbers below n, added up
below : (ℕ → ℕ) → ℕ → ℕ
below f zero = 0
below f (suc n) = f n + below f n

below_once : (n m : ℕ) → m ≤ n → below (once_below n) m ≡ m
unfolding below
below_once n zero h = refl
below_once n (suc m) h =
    let one : once_below n m ≡ 1 = grind (arith, nat_tests) in omega (arith, one, below_once n m (omega arith))

below_sum : (f g : ℕ → ℕ) (n : ℕ) → below (λ x. f x + g x) n ≡ below f n + below g n
unfolding below
below_sum f g zero = refl
below_sum f g (suc n) = omega (arith, below_sum f g n)

below_same : (f g : ℕ → ℕ) (n : ℕ) → ((x : ℕ) → f x ≡ g x) → below f n ≡ below g n
unfolding below
below_same f g zero h = refl
below_same f g (suc n) h = omega (arith, h n, below_same f g n h)

below_zero : (n : ℕ) → below (λ _. 0) n ≡ 0
unfolding below
below_zero zero = refl
below_zero (suc n) = omega (arith, below_zero n)

-- a number from n on isn't counted, and one below n is counted once
below_late : (y n : ℕ) → n ≤ y → below (λ x. cond (eqb y x) 1 0) n ≡ 0
unfolding below
below_late y zero h = refl
below_late y (suc n) h =
    let not_it : cond {A = ℕ} (eqb y n) 1 0 ≡ 0 = grind (arith, nat_tests) in
    omega (arith, not_it, below_late y n (omega arith))

below_one : (y n : ℕ) → y < n → below (λ x. cond (eqb y x) 1 0) n ≡ 1
unfolding below
below_one y zero h = absurd (omega arith)
below_one y (suc n) h = grind (arith, nat_tests, below_one y n, below_late y n)

-- a list with no number from n on is as long as the numbers below n stand in it often
length_below : (n : ℕ) (xs : List ℕ) → ((x : ℕ) → n ≤ x → times x xs ≡ 0) → below (λ x. times x xs) n ≡ length xs
length_below n [] none = below_zero n
length_below n (y ∷ ys) none =
    let small : y < n = let c = times-cons y y ys in grind (arith, nat_tests, none y) in
    let split : below (λ x. times x (y ∷ ys)) n ≡ below (λ x. cond (eqb y x) 1 0 + times x ys) n =
    below_same (λ x. times x (y ∷ ys)) (λ x. cond (eqb y x) 1 0 + times x ys) n (λ x. times-cons x y ys) in
    let sums : below (λ x. cond (eqb y x) 1 0 + times x ys) n
    ≡ below (λ x. cond (eqb y x) 1 0) n + below (λ x. times x ys) n =
    below_sum (λ x. cond (eqb y x) 1 0) (λ x. times x ys) n in
    let rest = length_below n ys (λ x far. let h = none x far in let c = times-cons x y ys in omega (arith, h, c)) in
    omega (arith, split, sums, below_one y n small, rest)

-- a list in which each number below n stands once, and no other number, has n numbers
pub length_each : (n : ℕ) (xs : List ℕ) → HasEachOnce n xs → length xs ≡ n
length_each n xs h =
    let late : (x : ℕ) → n ≤ x → times x xs ≡ 0 = λ x far. let e = h x in grind (arith, nat_tests) in
    sym (length_below n xs late) ∙ (below_same (λ x. times x xs) (once_below n) n h ∙ below_once n n (omega arith))
