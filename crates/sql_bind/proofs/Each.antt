-- Binding the elements of a list one after the other, as a loop does.
use Rattle.std.proofs.Common.{◌≡◌, ◌≢◌, ℕ, ◌+◌, ◌<◌, ◌≤◌, List, [], ◌∷◌, ◌++◌, length, drop, get_or, Ok, Err, refl, sym}
use Rattle.std.proofs.Common.{◌∙◌, drop-cons, add-one}
use Rattle.std.proofs.lemmas.List.{drop_all}
use Rattle.sql_bind.specs.declared.fault.BindFault.{BindFault}
use Rattle.sql_bind.specs.declared.fault.BindFault.TheVariants.{Memory}
use Rattle.sql_bind.specs.Steps.{Binding, each}

-- the element at place i, and those after it
pub next_of : {X : Type 0} (xs : List X) (i : ℕ) (x : X) → i < length xs → x ≡ get_or xs i x
    → drop i xs ≡ x ∷ drop (i + 1) xs
next_of xs i x lt is = rw (add-one i, drop-cons xs i x lt, ← is) refl

module _ {A X : Type 0} (bind : List A → X → Binding A) (xs : List X) where
  -- the element at place i is bound
  pub goes_on : (before : List A) (i : ℕ) (x : X) (bound : A) → i < length xs → x ≡ get_or xs i x
      → bind before x ≡ Ok bound
      → each bind (before ++ bound ∷ []) (drop (i + 1) xs) ≡ each bind before (drop i xs)
  unfolding each
  goes_on before i x bound lt is found = rw (next_of xs i x lt is, found) refl

  -- the element at place i has a fault, and so the whole has it, unless memory ran out
  pub stops : (before : List A) (i : ℕ) (x : X) (total : Binding (List A)) (fault raised : BindFault) → i < length xs
      → x ≡ get_or xs i x
      → (fault ≢ Memory → bind before x ≡ Err fault) → each bind before (drop i xs) ≡ total → raised ≡ fault
      → raised ≢ Memory → total ≡ Err raised
  unfolding each
  stops before i x total fault raised lt is given so_far same other =
      sym so_far ∙ rw (same, next_of xs i x lt is, given (rw (← same) other)) refl

  -- all elements are bound
  pub is_done : (before : List A) (i : ℕ) → length xs ≤ i → each bind before (drop i xs) ≡ Ok before
  unfolding each
  is_done before i le = rw (drop_all i xs le) refl
