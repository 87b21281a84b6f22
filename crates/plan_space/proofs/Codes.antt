-- The order of codes: equal, or less at the first place where they differ.
use Rattle.std.proofs.Common.{◌≡◌, ℕ, ◌<◌, List, [], ◌∷◌, ◌++◌, ◌⊎◌, inl, inr, refl, sym, arith}
use Rattle.std.proofs.Math.Nat.{eq-or-lt_of_le}
use Rattle.std.specs.Ordering.{nat_cmp}
use Rattle.std.specs.Cmp.Lexicographic.{slice_cmp}
use Rattle.std.specs.Cmp.{nat_cmp_is}
use Rattle.std.specs.declared.cmp.Ordering.TheVariants.{Less, Equal, Greater}
use Rattle.std.proofs.lemmas.Bool.{cases_lt}
use Rattle.plan_space.specs.Order.{AtMost}

pub AtMost-refl : (xs : List ℕ) → AtMost xs xs
AtMost-refl [] = tt
AtMost-refl (x ∷ xs) = inr (refl, AtMost-refl xs)

pub AtMost-trans : (xs ys zs : List ℕ) → AtMost xs ys → AtMost ys zs → AtMost xs zs
AtMost-trans [] [] [] a b = tt
AtMost-trans [] [] (z ∷ zs) a b = absurd b
AtMost-trans [] (y ∷ ys) zs a b = absurd a
AtMost-trans (x ∷ xs) [] zs a b = absurd a
AtMost-trans (x ∷ xs) (y ∷ ys) [] a b = absurd b
AtMost-trans (x ∷ xs) (y ∷ ys) (z ∷ zs) (inl a) (inl b) = inl (omega arith)
AtMost-trans (x ∷ xs) (y ∷ ys) (z ∷ zs) (inl a) (inr b) = inl (omega arith)
AtMost-trans (x ∷ xs) (y ∷ ys) (z ∷ zs) (inr a) (inl b) = inl (omega arith)
AtMost-trans (x ∷ xs) (y ∷ ys) (z ∷ zs) (inr a) (inr b) = inr (omega arith, AtMost-trans xs ys zs a.1 b.1)

pub AtMost-append : (xs ys rs ts : List ℕ) → AtMost xs ys → AtMost rs ts → AtMost (xs ++ rs) (ys ++ ts)
AtMost-append [] [] rs ts a b = b
AtMost-append [] (y ∷ ys) rs ts a b = absurd a
AtMost-append (x ∷ xs) [] rs ts a b = absurd a
AtMost-append (x ∷ xs) (y ∷ ys) rs ts (inl a) b = inl a
AtMost-append (x ∷ xs) (y ∷ ys) rs ts (inr a) b = inr (a.0, AtMost-append xs ys rs ts a.1 b)

-- what is at most another doesn't come after it
pub AtMost-not_less : (xs ys : List ℕ) → AtMost xs ys → slice_cmp nat_cmp ys xs ≡ Less → ⊥
AtMost-not_less [] [] a less = cc
AtMost-not_less [] (y ∷ ys) a less = absurd a
AtMost-not_less (x ∷ xs) [] a less = absurd a
AtMost-not_less (x ∷ xs) (y ∷ ys) (inl a) less = let after : Greater ≡ nat_cmp y x = nat_cmp_is y x Greater a in
    let less' = rw (← after) at less in cc
AtMost-not_less (x ∷ xs) (y ∷ ys) (inr a) less = let same : Equal ≡ nat_cmp y x = nat_cmp_is y x Equal (omega arith) in
    let less' = rw (← same) at less in AtMost-not_less xs ys a.1 less'

-- codes that are at most each other are one
pub one_code : (xs ys : List ℕ) → AtMost xs ys → AtMost ys xs → xs ≡ ys
one_code [] [] a b = refl
one_code [] (y ∷ ys) a b = absurd a
one_code (x ∷ xs) [] a b = absurd a
one_code (x ∷ xs) (y ∷ ys) (inl a) (inl b) = absurd (omega arith)
one_code (x ∷ xs) (y ∷ ys) (inl a) (inr b) = absurd (omega arith)
one_code (x ∷ xs) (y ∷ ys) (inr a) (inl b) = absurd (omega arith)
one_code (x ∷ xs) (y ∷ ys) (inr a) (inr b) = let first = a.0 in let rest = one_code xs ys a.1 b.1 in cc

-- the first is less at the first place where they differ; neither begins the other
abbrev pub IsBefore : List ℕ → List ℕ → Type 0
IsBefore [] ys = ⊥
IsBefore (x ∷ xs) [] = ⊥
IsBefore (x ∷ xs) (y ∷ ys) = (x < y) ⊎ ((x ≡ y) × IsBefore xs ys)

pub before_at_most : (xs ys : List ℕ) → IsBefore xs ys → AtMost xs ys
before_at_most [] ys a = absurd a
before_at_most (x ∷ xs) [] a = absurd a
before_at_most (x ∷ xs) (y ∷ ys) (inl a) = inl a
before_at_most (x ∷ xs) (y ∷ ys) (inr a) = inr (a.0, before_at_most xs ys a.1)

pub same_at_most : (xs ys : List ℕ) → xs ≡ ys → AtMost xs ys
same_at_most xs ys same = rw same (AtMost-refl ys)

pub before_is_less : (xs ys : List ℕ) → IsBefore xs ys → slice_cmp nat_cmp xs ys ≡ Less
before_is_less [] ys a = absurd a
before_is_less (x ∷ xs) [] a = absurd a
before_is_less (x ∷ xs) (y ∷ ys) (inl a) = let less : Less ≡ nat_cmp x y = nat_cmp_is x y Less a in rw (← less) refl
before_is_less (x ∷ xs) (y ∷ ys) (inr a) = let same : Equal ≡ nat_cmp x y = nat_cmp_is x y Equal (omega arith) in
    rw (← same) (before_is_less xs ys a.1)

before_append : (xs ys rs ts : List ℕ) → IsBefore xs ys → IsBefore (xs ++ rs) (ys ++ ts)
before_append [] ys rs ts a = absurd a
before_append (x ∷ xs) [] rs ts a = absurd a
before_append (x ∷ xs) (y ∷ ys) rs ts (inl a) = inl a
before_append (x ∷ xs) (y ∷ ys) rs ts (inr a) = inr (a.0, before_append xs ys rs ts a.1)

before_behind : (xs rs ts : List ℕ) → IsBefore rs ts → IsBefore (xs ++ rs) (xs ++ ts)
before_behind [] rs ts a = a
before_behind (x ∷ xs) rs ts a = inr (refl, before_behind xs rs ts a)

-- the codes are one, or differ at some place
abbrev pub AreCompared : List ℕ → List ℕ → Type 0
AreCompared xs ys = IsBefore xs ys ⊎ ((xs ≡ ys) ⊎ IsBefore ys xs)

same_head : (x y : ℕ) (xs ys : List ℕ) → x ≡ y → AreCompared xs ys → AreCompared (x ∷ xs) (y ∷ ys)
same_head x y xs ys same (inl a) = inl (inr (same, a))
same_head x y xs ys same (inr (inl a)) = inr (inl cc)
same_head x y xs ys same (inr (inr a)) = inr (inr (inr (sym same, a)))

-- codes are told apart by their first numbers, or by what is behind them
pub compared_first : (x y : ℕ) (xs ys : List ℕ) → (x ≡ y → AreCompared xs ys) → AreCompared (x ∷ xs) (y ∷ ys)
compared_first x y xs ys behind = elim (cases_lt x y) [
  | inl less ↦ inl (inl less)
  | inr at_least ↦ elim (eq-or-lt_of_le at_least) [
    | inl same ↦ same_head x y xs ys (sym same) (behind (sym same))
    | inr more ↦ inr (inr (inl more))
  ]
]

behind_same : (xs ys rs ts : List ℕ) → xs ≡ ys → AreCompared rs ts → AreCompared (xs ++ rs) (ys ++ ts)
behind_same xs ys rs ts same (inl b) = inl (rw same (before_behind ys rs ts b))
behind_same xs ys rs ts same (inr (inl b)) = inr (inl cc)
behind_same xs ys rs ts same (inr (inr b)) = inr (inr (rw same (before_behind ys ts rs b)))

pub compared_append : (xs ys rs ts : List ℕ) → AreCompared xs ys → AreCompared rs ts → AreCompared (xs ++ rs) (ys ++ ts)
compared_append xs ys rs ts (inl a) b = inl (before_append xs ys rs ts a)
compared_append xs ys rs ts (inr (inl a)) b = behind_same xs ys rs ts a b
compared_append xs ys rs ts (inr (inr a)) b = inr (inr (before_append ys xs ts rs a))
