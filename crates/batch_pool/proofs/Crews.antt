-- Lists that got one more, or lost their last.
use Rattle.std.proofs.Common.{◌≡◌, ℕ, zero, suc, ◌+◌, ◌<◌, All, List, [], ◌∷◌, ◌++◌, length, slice_index_or, sum_by, sym, ap, subst, refl, ◌∙◌, arith}
use lib.Seq.{take-append_seam, drop-append_seam}
use Rattle.std.proofs.lemmas.List.Elements.{All-append, All-take, All-drop}
use Rattle.std.proofs.lemmas.List.Sums.{sum_by_push, sum_by-cons}

module _ {A : Type 0} (P : A → Type 0) where
  pub all_one : (x : A) → P x → All P (x ∷ [])
  all_one x p zero d near = p
  all_one x p (suc k) d near = absurd (omega arith)

  pub all_push : (xs ys : List A) (x : A) → ys ≡ xs ++ x ∷ [] → All P xs → P x → All P ys
  all_push xs ys x is h p = subst (All P) (sym is) (All-append P xs (x ∷ []) h (all_one x p))

  pub all_pop : (xs ys : List A) (x : A) → ys ≡ xs ++ x ∷ [] → All P ys → All P xs
  all_pop xs ys x is h = subst (All P) (take-append_seam xs (x ∷ []))
      (All-take P (length xs) (xs ++ x ∷ []) (subst (All P) is h))

  pub last_pop : (xs ys : List A) (x : A) → ys ≡ xs ++ x ∷ [] → All P ys → P x
  last_pop xs ys x is h = subst (All P) (drop-append_seam xs (x ∷ []))
      (All-drop P (length xs) (xs ++ x ∷ []) (subst (All P) is h)) 0 x (omega arith)

-- a sum once there is one term more
pub sum_by_push_as : {A : Type 0} (f : A → ℕ) (xs ys : List A) (x : A) → ys ≡ xs ++ x ∷ []
    → sum_by f ys ≡ sum_by f xs + f x
sum_by_push_as f xs ys x is = ap (sum_by f) is ∙ sum_by_push f xs x

-- sums with as many terms, which are the same one by one
pub sum_by_same : {A B : Type 0} (f : A → ℕ) (g : B → ℕ) (xs : List A) (ys : List B) → length ys ≡ length xs
    → ((i : ℕ) (d : A) (e : B) → i < length xs → g (slice_index_or ys i e) ≡ f (slice_index_or xs i d))
    → sum_by g ys ≡ sum_by f xs
sum_by_same f g [] [] long same = refl
sum_by_same f g [] (y ∷ ys) long same = absurd (omega arith)
sum_by_same f g (x ∷ xs) [] long same = absurd (omega arith)
sum_by_same f g (x ∷ xs) (y ∷ ys) long same =
    let first : g y ≡ f x = same 0 x y (omega arith) in
    let rest = sum_by_same f g xs ys (omega arith) (λ i d e near. same (suc i) d e (omega arith)) in
    omega (arith, first, rest, sum_by-cons f x xs, sum_by-cons g y ys)
