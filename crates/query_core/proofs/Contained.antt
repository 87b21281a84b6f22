-- What a list contains, by its first element.
use Rattle.std.proofs.Common.{◌≡◌, zero, suc, List, ◌∷◌, refl, arith, ◌⊎◌, inl, inr}
use Rattle.std.specs.List.{Contains}

module _ {X : Type 0} (x : X) (xs : List X) where
  -- the first element of a list is in it
  pub contains_here : Contains (x ∷ xs) x
  contains_here = (zero, omega arith, refl)

  -- so are the others
  pub contains_later : (y : X) → Contains xs y → Contains (x ∷ xs) y
  contains_later y (k, within, is) = (suc k, omega (arith, within), is)

  -- and nothing else is
  pub contains_cases : (y : X) → Contains (x ∷ xs) y → (x ≡ y) ⊎ Contains xs y
  contains_cases y (zero, within, is) = inl is
  contains_cases y (suc k, within, is) = inr (k, omega (arith, within), is)
