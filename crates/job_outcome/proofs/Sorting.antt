-- A list in the order of a number of each element.
use Rattle.std.proofs.Common.{◌≡◌, ℕ, zero, suc, ◌<◌, ◌≤◌, nat_le, Bool, true, false, List, [], ◌∷◌, length, get_or}
use Rattle.std.proofs.Common.{insert, refl, arith, leb-true, leb-false}
use Rattle.std.specs.List.Sorted.{IsPermutation, IsNonDecreasingBy}
use Rattle.std.proofs.lemmas.List.Sorted.{IsPermutation-refl, IsPermutation-cons, IsPermutation-insert}
use Rattle.std.proofs.lemmas.List.Sorted.{IsPermutation-trans, IsNonDecreasingBy-short, IsNonDecreasingBy-insert}

module _ {A : Type 0} (n : A → ℕ) where
  -- the place where an element goes
  record GoesIn (x : A) (xs : List A) : Type 0 where
    place : ℕ
    near : place ≤ length xs
    below : (k : ℕ) (d : A) → k < place → n (get_or xs k d) ≤ n x
    above : (k : ℕ) (d : A) → place ≤ k → k < length xs → n x ≤ n (get_or xs k d)

  goes_first : (x y : A) (ys : List A) → IsNonDecreasingBy n (y ∷ ys) → n x ≤ n y → GoesIn x (y ∷ ys)
  goes_first x y ys rise less = record {
    place = 0;
    near = omega arith;
    below = λ k d before. absurd (omega (arith, before));
    above = λ k d from within. let first : n y ≤ n (get_or (y ∷ ys) k d) = rise 0 k d (omega arith) within in
        omega (arith, less, first);
  }

  goes_behind : (x y : A) (ys : List A) → n y ≤ n x → GoesIn x ys → GoesIn x (y ∷ ys)
  goes_behind x y ys more its = record {
    place = suc its.place;
    near = let near = its.near in omega (arith, near);
    below = λ k d before. below_of k d before;
    above = λ k d from within. above_of k d from within;
  }
    where
      below_of : (k : ℕ) (d : A) → k < suc its.place → n (get_or (y ∷ ys) k d) ≤ n x
      below_of zero d before = more
      below_of (suc k) d before = its.below k d (omega (arith, before))

      above_of : (k : ℕ) (d : A) → suc its.place ≤ k → k < length (y ∷ ys) → n x ≤ n (get_or (y ∷ ys) k d)
      above_of zero d from within = absurd (omega (arith, from))
      above_of (suc k) d from within = its.above k d (omega (arith, from)) (omega (arith, within))

  goes_in : (x : A) (xs : List A) → IsNonDecreasingBy n xs → GoesIn x xs
  goes_in x [] rise = record {
    place = 0;
    near = omega arith;
    below = λ k d before. absurd (omega (arith, before));
    above = λ k d from within. absurd (omega (arith, within));
  }
  goes_in x (y ∷ ys) rise =
      by_test (nat_le (n x) (n y)) refl (goes_in x ys (λ i j d ordered within.
      rise (suc i) (suc j) d (omega (arith, ordered)) (omega (arith, within))))
    where
      by_test : (b : Bool) → nat_le (n x) (n y) ≡ b → GoesIn x ys → GoesIn x (y ∷ ys)
      by_test true is behind = goes_first x y ys rise (leb-true (n x) (n y) is)
      by_test false is behind =
          let more : n y < n x = leb-false (n x) (n y) is in
          goes_behind x y ys (omega (arith, more)) behind

  -- some order of the elements doesn't fall
  pub in_order : (xs : List A) → (ys : List A) × IsPermutation xs ys × IsNonDecreasingBy n ys
  in_order [] = ([], IsPermutation-refl [], IsNonDecreasingBy-short n [] (omega arith))
  in_order (x ∷ xs) =
      let (ys, same, rise) = in_order xs in
      let its = goes_in x ys rise in (
        insert ys its.place x,
        IsPermutation-trans (x ∷ xs) (x ∷ ys) (insert ys its.place x) (IsPermutation-cons x xs ys same)
            (IsPermutation-insert ys its.place x),
        IsNonDecreasingBy-insert n ys its.place x rise its.near its.below its.above,
      )
