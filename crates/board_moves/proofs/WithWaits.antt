-- A seat's rights with so many waits more.
use Rattle.std.proofs.Common.{◌≡◌, ℕ, ◌+◌, ◌==◌, Bool, true, false, cond, List, [], ◌∷◌, ◌∙◌, refl, ap, add_assoc}
use Rattle.std.proofs.Common.{arith}
use Rattle.board_rule.specs.Records.{Claimed}
use Rattle.board_moves.specs.Moves.{with_waits}

-- no wait more leaves a right as it was
pub waits_none : (place : ℕ) (rights : List Claimed) → with_waits place 0 rights ≡ rights
waits_none place [] = refl
waits_none place (r ∷ rs) = ap (λ x. x ∷ with_waits place 0 rs) (same (r.place == place))
    ∙ ap (λ l. r ∷ l) (waits_none place rs)
  where
    same : (b : Bool) → cond b (record r { waits = r.waits + 0 }) r ≡ r
    same true = let none : r.waits + 0 ≡ r.waits = omega arith in ap (λ (n : ℕ). record r { waits = n }) none
    same false = refl

-- some waits more, and then some
pub waits_twice : (place first second : ℕ) (rights : List Claimed)
    → with_waits place second (with_waits place first rights) ≡ with_waits place (first + second) rights
waits_twice place first second [] = refl
waits_twice place first second (r ∷ rs) =
    ap (λ x. x ∷ with_waits place second (with_waits place first rs)) (same (r.place == place) refl)
    ∙ ap (λ l. cond (r.place == place) (record r { waits = r.waits + (first + second) }) r ∷ l)
    (waits_twice place first second rs)
  where
    place_of : (b : Bool) → (cond b (record r { waits = r.waits + first }) r).place ≡ r.place
    place_of true = refl
    place_of false = refl

    same : (b : Bool) → r.place == place ≡ b
        → (let x : Claimed = cond b (record r { waits = r.waits + first }) r in
        cond (x.place == place) (record x { waits = x.waits + second }) x) ≡ cond b
        (record r { waits = r.waits + (first + second) }) r
    same true is = ap (λ t. cond t (record r { waits = r.waits + first + second })
        (record r { waits = r.waits + first })) is
        ∙ ap (λ (n : ℕ). record r { waits = n }) (add_assoc r.waits first second)
    same false is = ap (λ t. cond t (record r { waits = r.waits + second }) r) is
