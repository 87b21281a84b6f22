-- Lists over a range that grow by one.
use Rattle.std.proofs.Common.{◌≡◌, ℕ, zero, suc, ◌+◌, ◌-◌, ◌≤◌, Bool, true, false, cond, List, [], ◌∷◌, ◌++◌, map}
use Rattle.std.proofs.Common.{filter, refl, sym, ap, ap₂, ◌∙◌, arith, append_assoc, append-nil}
use Rattle.std.specs.List.{flat_map, range_with_len}
use Rattle.std.proofs.lemmas.List.{map-append}
use Rattle.std.proofs.lemmas.Grind.{flat_map-append}

-- the last number of a range
range_last : (a n : ℕ) → range_with_len a (suc n) ≡ range_with_len a n ++ (a + n) ∷ []
range_last a zero = ap (λ (k : ℕ). k ∷ []) (omega arith)
range_last a (suc n) = ap (λ (ks : List ℕ). a ∷ ks) (range_last (a + 1) n
    ∙ ap (λ (k : ℕ). range_with_len (a + 1) n ++ k ∷ []) (omega arith))

one_more : (a n m : ℕ) → m ≡ n + 1 → range_with_len a m ≡ range_with_len a n ++ (a + n) ∷ []
one_more a n m e = ap (range_with_len a) (let k : m ≡ suc n = omega arith in k) ∙ range_last a n

-- the element for the next number goes last
pub next_mapped : {A : Type 0} (f : ℕ → A) (i : ℕ) (old new : List A) (x : A) → old ≡ map f (range_with_len 0 i)
    → x ≡ f i → new ≡ old ++ x ∷ [] → new ≡ map f (range_with_len 0 (i + 1))
next_mapped f i old new x so_far is pushed =
    let here : f i ≡ f (0 + i) = ap f (omega arith) in
    pushed ∙ ap₂ (λ xs y. xs ++ y ∷ []) so_far (is ∙ here)
    ∙ sym (ap (map f) (one_more 0 i (i + 1) refl) ∙ map-append f (range_with_len 0 i) ((0 + i) ∷ []))

-- the elements for the next number go last
pub next_listed : {A : Type 0} (f : ℕ → List A) (i : ℕ) (old new : List A) → old ≡ flat_map f (range_with_len 0 i)
    → new ≡ old ++ f i → new ≡ flat_map f (range_with_len 0 (i + 1))
next_listed f i old new so_far added =
    let here : f i ≡ flat_map f ((0 + i) ∷ []) = ap f (omega arith) ∙ sym (append-nil (f (0 + i))) in
    added ∙ ap₂ (λ xs ys. xs ++ ys) so_far here
    ∙ sym (ap (flat_map f) (one_more 0 i (i + 1) refl) ∙ flat_map-append f (range_with_len 0 i) ((0 + i) ∷ []))

module _ {A : Type 0} (f : ℕ → A) (test : ℕ → Bool) where
  filter-append : (xs ys : List ℕ) → filter test (xs ++ ys) ≡ filter test xs ++ filter test ys
  filter-append [] ys = refl
  filter-append (x ∷ xs) ys = by (test x) (filter-append xs ys)
    where
      by : (b : Bool) → filter test (xs ++ ys) ≡ filter test xs ++ filter test ys
          → cond b (x ∷ filter test (xs ++ ys)) (filter test (xs ++ ys)) ≡ cond b (x ∷ filter test xs)
          (filter test xs) ++ filter test ys
      by true e = ap (λ (ks : List ℕ). x ∷ ks) e
      by false e = e

  abbrev passing : List ℕ → List A
  passing xs = map f (filter test xs)

  passing-append : (xs ys : List ℕ) → passing (xs ++ ys) ≡ passing xs ++ passing ys
  passing-append xs ys = ap (map f) (filter-append xs ys) ∙ map-append f (filter test xs) (filter test ys)

  passing_one : (x : ℕ) → passing (x ∷ []) ≡ cond (test x) (f x ∷ []) []
  passing_one x = by (test x)
    where
      by : (b : Bool) → map f (cond b (x ∷ []) []) ≡ cond b (f x ∷ []) []
      by true = refl
      by false = refl

  -- where the next number passes, its element goes last
  pub next_passing : (first j : ℕ) (front old new : List A) → first ≤ j
      → old ≡ front ++ passing (range_with_len first (j - first)) → new ≡ old ++ cond (test j) (f j ∷ []) []
      → new ≡ front ++ passing (range_with_len first ((j + 1) - first))
  next_passing first j front old new within so_far added =
      let here : first + (j - first) ≡ j = omega arith in
      let longer = one_more first (j - first) ((j + 1) - first) (omega arith)
      ∙ ap (λ (k : ℕ). range_with_len first (j - first) ++ k ∷ []) here in
      let grown = ap passing longer ∙ passing-append (range_with_len first (j - first)) (j ∷ [])
      ∙ ap (λ (xs : List A). passing (range_with_len first (j - first)) ++ xs) (passing_one j) in
      added ∙ ap (λ (xs : List A). xs ++ cond (test j) (f j ∷ []) []) so_far ∙ append_assoc front _ _
      ∙ ap (λ (xs : List A). front ++ xs) (sym grown)
