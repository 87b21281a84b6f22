-- Lists that change at one place, sums over them, and functions that change at one place.
use Rattle.std.proofs.Common.{◌≡◌, ℕ, zero, suc, ◌+◌, ◌<◌, ◌≤◌, ◌≢◌, List, [], ◌∷◌, ◌++◌, map, length, set, cond, eqb}
use Rattle.std.proofs.Common.{eq-eqb, ne_eqb, sym, refl, ap, subst, ◌∙◌, inl, inr, ⊎_elim, arith}
use Rattle.std.proofs.lemmas.Bool.{cases_eq}
use mathlib.Core.Option.{some, some-injective, some-ne-none}
use lib.ListN.{get_elem?}
use Rattle.board_rule.specs.Words.{put}
use Rattle.board_rule.specs.Seats.{Among, Each, times, total}

-- the function has the new value there
pub put_here : (f : ℕ → ℕ) (at x : ℕ) → put f at x at ≡ x
put_here f at x = ap (λ b. cond b x (f at)) (eq-eqb at at refl)

-- and the old ones elsewhere
pub put_else : (f : ℕ → ℕ) (at x p : ℕ) → p ≢ at → put f at x p ≡ f p
put_else f at x p ne = ap (λ b. cond b x (f p)) (ne_eqb p at ne)

-- a fact of the first value where two numbers are one, and of the second where they are two, holds of that of the two
-- that stands for them
pub cond_cases : {A : Type 0} (p at : ℕ) (same other : A) (Fact : A → Type 0) → (p ≡ at → Fact same)
    → (p ≢ at → Fact other) → Fact (cond (eqb p at) same other)
cond_cases p at same other Fact here else =
    ⊎_elim (λ e. subst (λ b. Fact (cond b same other)) (sym (eq-eqb p at e)) (here e))
    (λ ne. subst (λ b. Fact (cond b same other)) (sym (ne_eqb p at ne)) (else ne)) (cases_eq p at)

-- a fact of the new value there, and of the old ones elsewhere, holds of the function
pub put_cases : (f : ℕ → ℕ) (at x p : ℕ) (Fact : ℕ → Type 0) → (p ≡ at → Fact x) → (p ≢ at → Fact (f p))
    → Fact (put f at x p)
put_cases f at x p = cond_cases p at x (f p)

-- a place counts once where it is the other
pub counts_one : (p q : ℕ) → p ≡ q → cond {A = ℕ} (eqb p q) 1 0 ≡ 1
counts_one p q e = ap (λ b. cond b 1 0) (eq-eqb p q e)

-- and not at all elsewhere
pub counts_none : (p q : ℕ) → p ≢ q → cond {A = ℕ} (eqb p q) 1 0 ≡ 0
counts_none p q ne = ap (λ b. cond b 1 0) (ne_eqb p q ne)

module _ {A : Type 0} where
  pub some_below : (l : List A) (j : ℕ) (a : A) → get_elem? l j ≡ some a → j < length l
  some_below [] j a e = absurd (some-ne-none a (sym e))
  some_below (x ∷ xs) zero a e = omega arith
  some_below (x ∷ xs) (suc j) a e = omega (arith, some_below xs j a e)

  pub each_as : (P Q : A → Type 0) → ((a : A) → P a → Q a) → (l : List A) → Each P l → Each Q l
  each_as P Q follows [] h = tt
  each_as P Q follows (x ∷ xs) h = (follows x h.0, each_as P Q follows xs h.1)

  pub each_append : (P : A → Type 0) (l m : List A) → Each P l → Each P m → Each P (l ++ m)
  each_append P [] m h k = k
  each_append P (x ∷ xs) m h k = (h.0, each_append P xs m h.1 k)

  pub each_at : (P : A → Type 0) (l : List A) (a : A) → Each P l → Among l a → P a
  each_at P [] a h at = absurd at
  each_at P (x ∷ xs) a h at = ⊎_elim (λ (e : x ≡ a). subst P e h.0) (λ (t : Among xs a). each_at P xs a h.1 t) at

  pub among_map : {B : Type 0} (f : A → B) (l : List A) (a : A) → Among l a → Among (map f l) (f a)
  among_map f [] a at = absurd at
  among_map f (x ∷ xs) a at = ⊎_elim (λ (e : x ≡ a). inl (ap f e)) (λ (t : Among xs a). inr (among_map f xs a t)) at

  module _ (place_of : A → ℕ) where
    pub times-append : (p : ℕ) (l m : List A) → times place_of p (l ++ m) ≡ times place_of p l + times place_of p m
    times-append p [] m = omega arith
    times-append p (x ∷ xs) m = omega (arith, times-append p xs m)

    -- the place of one of the list stands in it
    pub among_counts : (l : List A) (a : A) → Among l a → 1 ≤ times place_of (place_of a) l
    among_counts [] a at = absurd at
    among_counts (x ∷ xs) a at =
        ⊎_elim
        (λ (e : x ≡ a). omega (arith, counts_one (place_of x) (place_of a) (ap place_of e)))
        (λ (t : Among xs a). omega (arith, among_counts xs a t)) at

    -- where a place stands no time in the list, each has another
    pub absent_each : (p : ℕ) (l : List A) → times place_of p l ≡ 0 → Each (λ a. place_of a ≢ p) l
    absent_each p [] none = tt
    absent_each p (x ∷ xs) none =
        ((λ e. absurd (omega (arith, counts_one (place_of x) p e))), absent_each p xs (omega arith))

    -- a place that stands once in the list is that of one alone
    pub only_one : (l : List A) (a b : A) → times place_of (place_of a) l ≤ 1 → place_of b ≡ place_of a → Among l a
        → Among l b → a ≡ b
    only_one [] a b few same at bt = absurd at
    only_one (x ∷ xs) a b few same at bt =
        let one : (c : A) → x ≡ c → place_of c ≡ place_of a → cond {A = ℕ} (eqb (place_of x) (place_of a)) 1 0 ≡ 1 =
        λ c e s. counts_one (place_of x) (place_of a) (ap place_of e ∙ s) in
        let more : (c : A) → Among xs c → place_of c ≡ place_of a → 1 ≤ times place_of (place_of a) xs =
        λ c t s. subst (λ p. 1 ≤ times place_of p xs) s (among_counts xs c t) in
        ⊎_elim
        (λ (e : x ≡ a). ⊎_elim
        (λ (d : x ≡ b). sym e ∙ d)
        (λ (t : Among xs b). let o = one a e refl in let m = more b t same in absurd (omega arith)) bt)
        (λ (u : Among xs a). ⊎_elim
        (λ (d : x ≡ b). let o = one b d same in let m = more a u refl in absurd (omega arith))
        (λ (t : Among xs b). only_one xs a b (omega arith) same u t) bt)
        at

  module _ (f : A → ℕ) where
    pub total-append : (l m : List A) → total f (l ++ m) ≡ total f l + total f m
    total-append [] m = omega arith
    total-append (x ∷ xs) m = omega (arith, total-append xs m)

    -- a sum once one of its terms has changed
    pub total-set : (l : List A) (j : ℕ) (v w : A) → get_elem? l j ≡ some v
        → total f (set l j w) + f v ≡ total f l + f w
    total-set [] j v w e = absurd (some-ne-none v (sym e))
    total-set (x ∷ xs) zero v w e = omega (arith, ap f (some-injective x v e))
    total-set (x ∷ xs) (suc j) v w e = omega (arith, total-set xs j v w e)

    pub term_le : (l : List A) (j : ℕ) (v : A) → get_elem? l j ≡ some v → f v ≤ total f l
    term_le [] j v e = absurd (some-ne-none v (sym e))
    term_le (x ∷ xs) zero v e = omega (arith, ap f (some-injective x v e))
    term_le (x ∷ xs) (suc j) v e = omega (arith, term_le xs j v e)

    pub terms_le : (l : List A) (j k : ℕ) (v u : A) → k ≢ j → get_elem? l j ≡ some v → get_elem? l k ≡ some u
        → f v + f u ≤ total f l
    terms_le [] j k v u n e d = absurd (some-ne-none v (sym e))
    terms_le (x ∷ xs) zero zero v u n e d = absurd (n refl)
    terms_le (x ∷ xs) zero (suc k) v u n e d = omega (arith, ap f (some-injective x v e), term_le xs k u d)
    terms_le (x ∷ xs) (suc j) zero v u n e d = omega (arith, ap f (some-injective x u d), term_le xs j v e)
    terms_le (x ∷ xs) (suc j) (suc k) v u n e d = omega (arith, terms_le xs j k v u (λ h. n (ap suc h)) e d)

    -- a sum whose changed term is what it was
    pub total_same : (l : List A) (j : ℕ) (v w : A) → get_elem? l j ≡ some v → f w ≡ f v
        → total f (set l j w) ≡ total f l
    total_same l j v w e same = omega (arith, total-set l j v w e)
