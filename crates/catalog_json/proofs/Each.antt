-- Reading the elements of an array one after the other, as a loop does.
use Rattle.std.proofs.Common.{◌≡◌, ◌≢◌, ℕ, suc, ◌+◌, ◌<◌, ◌≤◌, List, [], ◌∷◌, ◌++◌, length, map, drop, get_or, Ok, Err}
use Rattle.std.proofs.Common.{refl, sym, ap, ◌∙◌, drop-cons, add-one, arith}
use Rattle.std.proofs.lemmas.List.{drop-map, drop_all}
use Rattle.serde_json.specs.Data.{Data}
use Rattle.serde_json.specs.View.{view}
use Rattle.serde_json.specs.declared.value.Value.{Value}
use Rattle.catalog_json.specs.declared.fault.Fault.{Fault}
use Rattle.catalog_json.specs.declared.fault.Fault.TheVariants.{Memory}
use Rattle.catalog_json.specs.Walk.{Reading, each, seen}

-- the value at place i, and those after it
next_value : (values : List Value) (i : ℕ) (v : Value) → i < length values → v ≡ get_or values i v
    → drop i (map view values) ≡ view v ∷ drop (i + 1) (map view values)
next_value values i v lt is = rw (
  add-one i,
  drop-map view i values,
  drop-map view (suc i) values,
  drop-cons values i v lt,
  ← is,
) refl

module _ {A : Type 0} (read : List A → Data → Reading A) (values : List Value) where
  -- the value at place i is read
  pub goes_on : (before : List A) (i : ℕ) (v : Value) (x : A) → i < length values → v ≡ get_or values i v
      → read before (view v) ≡ Ok x
      → each read (before ++ x ∷ []) (drop (i + 1) (map view values)) ≡ each read before (drop i (map view values))
  unfolding each
  goes_on before i v x lt is found = rw (next_value values i v lt is, found) refl

  -- the value at place i has a fault
  pub ends : (before : List A) (i : ℕ) (v : Value) (fault : Fault) → i < length values → v ≡ get_or values i v
      → read before (view v) ≡ Err fault
      → each read before (drop i (map view values)) ≡ Err fault
  unfolding each
  ends before i v fault lt is found = rw (next_value values i v lt is, found) refl

  -- and so the whole has it, unless memory ran out
  pub stops : (before : List A) (i : ℕ) (v : Value) (total : Reading (List A)) (fault raised : Fault)
      → i < length values → v ≡ get_or values i v
      → (fault ≢ Memory → read before (view v) ≡ Err fault) → each read before (drop i (map view values)) ≡ total
      → raised ≡ fault → raised ≢ Memory → total ≡ Err raised
  stops before i v total fault raised lt is given so_far same other =
      sym so_far ∙ rw same (ends before i v fault lt is (given (rw (← same) other)))

  -- all values are read
  pub is_done : (before : List A) (i : ℕ) → length values ≤ i → each read before (drop i (map view values)) ≡ Ok before
  unfolding each
  is_done before i le = rw (drop-map view i values, drop_all i values le) refl

-- ---- values that are moved out of their array

module _ {A : Type 0} (read : List A → Data → Reading A) (values : List Value) where
  -- those that are left, so many, are read after what was read
  pub record IsOnTheWay (done : List A) (left : List Value) (count : ℕ) : Type 0 where
    pub counted : count ≡ length left
    pub goes_on : each read done (map view left) ≡ each read [] (map view values)

  -- the next value is read
  pub next_read : (done : List A) (left later : List Value) (count fewer : ℕ) (v : Value) (x : A)
      → IsOnTheWay done left count → left ≡ v ∷ later → fewer + 1 ≡ count
      → read done (view v) ≡ Ok x → IsOnTheWay (done ++ x ∷ []) later fewer
  unfolding each
  next_read done left later count fewer v x way is less found = record {
    counted = omega (arith, way.counted, ap length is, less);
    goes_on = (rw found refl) ∙ ap (λ (vs : List Value). each read done (map view vs)) (sym is) ∙ way.goes_on;
  }

  -- the next value has a fault, and so the whole has it, unless memory ran out
  pub next_stops : (done : List A) (left later : List Value) (count : ℕ) (v : Value) (fault raised : Fault)
      → IsOnTheWay done left count → left ≡ v ∷ later
      → (fault ≢ Memory → read done (view v) ≡ Err fault) → raised ≡ fault → raised ≢ Memory
      → each read [] (map view values) ≡ Err raised
  unfolding each
  next_stops done left later count v fault raised way is given same other =
      sym way.goes_on ∙ rw (is, given (rw (← same) other), same) refl

  -- none is left
  pub all_read : (done : List A) (left : List Value) (count : ℕ) → IsOnTheWay done left count → count ≡ 0
      → each read [] (map view values) ≡ Ok done
  unfolding each
  all_read done [] count way none = sym way.goes_on
  all_read done (v ∷ left) count way none = absurd (omega (arith, way.counted, none))

-- one more that was read, as a whole that grew by it
module _ {A : Type 0} (before : List A) where
  pub added : (reading : Reading A) (after : List A) → seen (λ x. before ++ x ∷ []) reading ≡ Ok after → (x : A)
      × (reading ≡ Ok x) × (after ≡ before ++ x ∷ [])
  added (Ok x) after e = (x, refl, cc)
  added (Err fault) after e = absurd cc

  pub not_added : (reading : Reading A) (fault : Fault) → seen (λ x. before ++ x ∷ []) reading ≡ Err fault
      → reading ≡ Err fault
  not_added (Ok x) fault e = absurd cc
  not_added (Err other) fault e = cc
