-- Two ascending lists of the same words are the same.
use Rattle.std.proofs.Common.{◌≡◌, ℕ, zero, suc, ◌<◌, List, [], ◌∷◌, length, refl, sym, subst, ap, ◌∙◌, arith}
use Rattle.std.specs.Prelude.{slice_index, slice_index_or}
use Rattle.std.specs.List.{Contains}
use native.Mathlib.Numerals.{unary_clauses}
use Rattle.std.specs.List.Sorted.{IsStrictlyIncreasing}
use Rattle.query_core.specs.declared.query.Query.{Query}
use Rattle.query_core.proofs.Contained.{contains_here, contains_later}
use Rattle.xform_rules.specs.Closure.{IsClosureOf}

-- the words behind the first ascend
tail_increasing : (x : ℕ) (xs : List ℕ) → IsStrictlyIncreasing (x ∷ xs) → IsStrictlyIncreasing xs
tail_increasing x xs increasing = λ k within.
    let next : slice_index (x ∷ xs) (suc k) < slice_index (x ∷ xs) (suc (suc k)) =
    simp unary_clauses at (increasing (suc k) (omega (arith, within))) in
    simp unary_clauses next

-- the word at each place is above the first
above_first : (x : ℕ) (xs : List ℕ) (k d : ℕ) → IsStrictlyIncreasing (x ∷ xs) → k < length xs
    → x < slice_index_or xs k d
above_first x [] k d increasing within = absurd (omega (arith, within))
above_first x (y ∷ ys) zero d increasing within = increasing zero (omega (arith, within))
above_first x (y ∷ ys) (suc k) d increasing within =
    let next : x < y = increasing zero (omega (arith, within)) in
    let later : y < slice_index_or ys k d = above_first y ys k d (tail_increasing x (y ∷ ys) increasing)
    (omega (arith, within)) in
    omega (arith, next, later)

-- so is each word among them
above : (x : ℕ) (xs : List ℕ) (w : ℕ) → IsStrictlyIncreasing (x ∷ xs) → Contains xs w → x < w
above x xs w increasing (k, within, is) = subst (λ v. x < v) is (above_first x xs k w increasing within)

-- the first words are the same
one_first : (x y : ℕ) (xs ys : List ℕ) → IsStrictlyIncreasing (x ∷ xs) → IsStrictlyIncreasing (y ∷ ys)
    → Contains (y ∷ ys) x → Contains (x ∷ xs) y → x ≡ y
one_first x y xs ys first second (zero, within, is) y_there = sym is
one_first x y xs ys first second (suc k, within, is) (zero, within_other, is_other) = is_other
one_first x y xs ys first second (suc k, within, is) (suc j, within_other, is_other) =
    let below : y < x = above y ys x second (k, omega (arith, within), is) in
    let over : x < y = above x xs y first (j, omega (arith, within_other), is_other) in
    absurd (omega (arith, below, over))

-- what is in the whole and isn't the first is behind it
behind : (x y w : ℕ) (ys : List ℕ) → x ≡ y → x < w → Contains (y ∷ ys) w → Contains ys w
behind x y w ys same less (zero, within, is) = absurd (omega (arith, same, less, is))
behind x y w ys same less (suc k, within, is) = (k, omega (arith, within), is)

-- two ascending lists of the same words are one
pub increasing_one : (xs ys : List ℕ) → IsStrictlyIncreasing xs → IsStrictlyIncreasing ys
    → ((w : ℕ) → Contains xs w → Contains ys w) → ((w : ℕ) → Contains ys w → Contains xs w) → xs ≡ ys
increasing_one [] [] first second to from = refl
increasing_one [] (y ∷ ys) first second to from = let (k, within, is) = from y (contains_here y ys) in
    absurd (omega (arith, within))
increasing_one (x ∷ xs) [] first second to from = let (k, within, is) = to x (contains_here x xs) in
    absurd (omega (arith, within))
increasing_one (x ∷ xs) (y ∷ ys) first second to from =
    let same : x ≡ y = one_first x y xs ys first second (to x (contains_here x xs)) (from y (contains_here y ys)) in
    let rest : xs ≡ ys = increasing_one xs ys (tail_increasing x xs first) (tail_increasing y ys second)
    (λ w there. behind x y w ys same (above x xs w first there) (to w (contains_later x xs w there)))
    (λ w there. behind y x w xs (sym same) (above y ys w second there) (from w (contains_later y ys w there))) in
    ap (λ z. z ∷ xs) same ∙ ap (λ zs. y ∷ zs) rest

-- the words of one closure are among those of the other
among : (q : Query) (words others : List ℕ) → IsClosureOf q words → IsClosureOf q others → (w : ℕ) → Contains words w
    → Contains others w
among q words others is again w (k, within, at_place) =
    let (e, member, word) = is.sound k w within in
    subst (Contains others) (word ∙ at_place) (again.complete e member)

-- a query has one closure
pub closure_one : (q : Query) (words others : List ℕ) → IsClosureOf q words → IsClosureOf q others → words ≡ others
closure_one q words others is again = increasing_one words others is.ascending again.ascending
    (among q words others is again) (among q others words again is)
