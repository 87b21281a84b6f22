-- What stands at a place of a list that changed.
use Rattle.std.proofs.Common.{◌≡◌, ◌≢◌, ℕ, zero, suc, ◌<◌, List, [], ◌∷◌, ◌++◌, length, set, refl, ap, arith, ⊎_elim, ◌⊎◌, inl, inr, ◌∙◌, Some}
use Rattle.std.specs.Prelude.{slice_get}

module _ {A : Type 0} where
  -- what stands in a list once one place is written
  pub get_here : (l : List A) (i : ℕ) (a : A) → i < length l → slice_get (set l i a) i ≡ Some a
  get_here [] i a near = absurd (omega arith)
  get_here (x ∷ xs) zero a near = refl
  get_here (x ∷ xs) (suc i) a near = get_here xs i a (omega arith)

  pub get_else : (l : List A) (i k : ℕ) (a : A) → k ≢ i → slice_get (set l i a) k ≡ slice_get l k
  get_else [] i k a ne = refl
  get_else (x ∷ xs) zero zero a ne = absurd (ne refl)
  get_else (x ∷ xs) zero (suc k) a ne = refl
  get_else (x ∷ xs) (suc i) zero a ne = refl
  get_else (x ∷ xs) (suc i) (suc k) a ne = get_else xs i k a (λ e. ne (ap suc e))

  -- what stands after the first of a list
  pub get_seam : (xs ys : List A) (x : A) → slice_get (xs ++ x ∷ ys) (length xs) ≡ Some x
  get_seam [] ys x = refl
  get_seam (z ∷ zs) ys x =
      let more : length (z ∷ zs) ≡ suc (length zs) = omega arith in
      ap (λ (k : ℕ). slice_get (z ∷ zs ++ x ∷ ys) k) more ∙ get_seam zs ys x

  -- what stands in a list that has one more
  pub get_push : (xs : List A) (x y : A) (k : ℕ) → slice_get (xs ++ x ∷ []) k ≡ Some y
      → (slice_get xs k ≡ Some y) ⊎ ((k ≡ length xs) × (x ≡ y))
  get_push [] x y zero e = inr (refl, cc)
  get_push [] x y (suc k) e = absurd (cc)
  get_push (z ∷ zs) x y zero e = inl e
  get_push (z ∷ zs) x y (suc k) e =
      ⊎_elim inl (λ (t : (k ≡ length zs) × (x ≡ y)). let far = t.0 in inr (omega arith, t.1)) (get_push zs x y k e)
