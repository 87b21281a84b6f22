-- Words that ascend strictly.
use Rattle.std.proofs.Common.{◌≡◌, ℕ, ◌+◌, ◌<◌, List, [], ◌∷◌, ◌++◌, refl, arith, zero, suc}
use Rattle.std.specs.List.{Contains}
use Rattle.std.specs.List.Sorted.{IsStrictlyIncreasing}

contains_later : (x : ℕ) (xs : List ℕ) (w : ℕ) → Contains xs w → Contains (x ∷ xs) w
contains_later x xs w (k, within, is) = (suc k, omega (arith, within), is)

-- a greater word behind ascending ones
pub rises_push : (xs : List ℕ) (x : ℕ) → IsStrictlyIncreasing xs → ((w : ℕ) → Contains xs w → w < x)
    → IsStrictlyIncreasing (xs ++ x ∷ [])
rises_push [] x rises below k within = absurd (omega (arith, within))
rises_push (y ∷ []) x rises below zero within = below y (zero, omega arith, refl)
rises_push (y ∷ []) x rises below (suc k) within = absurd (omega (arith, within))
rises_push (y ∷ (z ∷ zs)) x rises below zero within = rises zero (omega arith)
rises_push (y ∷ (z ∷ zs)) x rises below (suc k) within =
    let next : suc k + 1 ≡ suc (k + 1) = omega arith in
    let tail : IsStrictlyIncreasing (z ∷ zs) =
    λ j inside. (let step : suc j + 1 ≡ suc (j + 1) = omega arith in
    rw step at (rises (suc j) (omega (arith, inside)))) in
    rw next (rises_push (z ∷ zs) x tail (λ w there. below w (contains_later y (z ∷ zs) w there)) k
    (omega (arith, within)))
