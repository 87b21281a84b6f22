-- Heads that come later, sums over places, chains of waiters, and bits of run words.
use Rattle.std.proofs.Common.{◌≡◌, ℕ, zero, suc, ◌+◌, ◌-◌, ◌/◌, ◌^◌, ◌<◌, ◌≤◌, ◌≢◌, List, [], ◌∷◌, cond, eqb}
use Rattle.std.proofs.Common.{bit_or, sym, refl, ap, subst, ◌∙◌, inl, inr, ⊎_elim, arith}
use Rattle.std.proofs.lemmas.Bool.{cases_eq}
use Rattle.std.proofs.lemmas.Nat.Bits.{bit_at_or, bit_at_and, bit_at-pow_same, bit_at-pow_other, bit_at-lt, bit_at_not}
use Rattle.std.specs.Int.{bit_at}
use Rattle.std.specs.Int.{w64}
use Rattle.std.proofs.Math.Pow.{pow-lt}
use Rattle.board_rule.specs.Words.{put}
use Rattle.board_rule.specs.Waiters.{rest_of, IsChain, IsLater, cleared, below}
use Rattle.board_rule.specs.Seats.{Among, Each, times}
use Rattle.board_rule.proofs.Lists.{cond_cases, counts_one, put_else}

-- how often a waiter stands in a list
abbrev pub count : ℕ → List ℕ → ℕ
count q waiters = times (λ (p : ℕ). p) q waiters

-- a closed head that was seen is closed
pub later_closed : (found now : ℕ) → IsLater found now → 2 ^ 63 ≤ found → 2 ^ 63 ≤ now
later_closed found now later closed =
    ⊎_elim (λ h. h) (⊎_elim (λ same. subst (λ n. 2 ^ 63 ≤ n) (sym same) closed) (λ t. let lt = t.0 in
    absurd (omega arith))) later

pub later_then : (a b c : ℕ) → IsLater a b → IsLater b c → IsLater a c
later_then a b c first second =
    ⊎_elim
    (λ closed. inl closed)
    (⊎_elim
    (λ same. subst (IsLater a) (sym same) first)
    (λ more. ⊎_elim
    (λ closed. let lt = more.0 in absurd (omega arith))
    (⊎_elim
    (λ same. inr (inr (subst (λ x. x < 2 ^ 63) same more.0, subst (λ x. x / 2 ^ 24 < c / 2 ^ 24) same more.1)))
    (λ less. inr (inr (less.0, omega (arith, less.1, more.1)))))
    first))
    second

-- sums over places
pub below_same : (f g : ℕ → ℕ) (n : ℕ) → ((p : ℕ) → p < n → g p ≡ f p) → below g n ≡ below f n
below_same f g zero same = refl
below_same f g (suc n) same = omega (arith, same n (omega arith), below_same f g n (λ p near. same p (omega arith)))

pub below_at : (f g : ℕ → ℕ) (n at : ℕ) → at < n → ((p : ℕ) → p < n → p ≢ at → g p ≡ f p)
    → below g n + f at ≡ below f n + g at
below_at f g zero at near same = absurd (omega arith)
below_at f g (suc n) at near same =
    ⊎_elim
    (λ here. let rest = below_same f g n (λ p less. same p (omega arith) (λ e. omega arith)) in
    subst (λ k. (g n + below g n) + f k ≡ (f n + below f n) + g k) (sym here) (omega arith))
    (λ else. omega (
      arith,
      same n (omega arith) (λ e. else (sym e)),
      below_at f g n at (omega arith) (λ p less ne. same p (omega arith) ne),
    ))
    (cases_eq at n)

pub below_term : (f : ℕ → ℕ) (n at : ℕ) → at < n → f at ≤ below f n
below_term f zero at near = absurd (omega arith)
below_term f (suc n) at near =
    ⊎_elim (λ here. subst (λ k. f k ≤ f n + below f n) (sym here) (omega arith))
    (λ else. omega (arith, below_term f n at (omega arith))) (cases_eq at n)

pub below_none : (f : ℕ → ℕ) (n : ℕ) → ((p : ℕ) → p < n → f p ≡ 0) → below f n ≡ 0
below_none f zero none_of = refl
below_none f (suc n) none_of = omega (
  arith,
  none_of n (omega arith),
  below_none f n (λ p near. none_of p (omega arith)),
)

-- the lists of all places, but for that of one
abbrev pub put_list : (ℕ → List ℕ) → ℕ → List ℕ → ℕ → List ℕ
put_list lists at l p = cond (eqb p at) l (lists p)

pub put_list_cases : (lists : ℕ → List ℕ) (at : ℕ) (l : List ℕ) (p : ℕ) (Fact : List ℕ → Type 0) → (p ≡ at → Fact l)
    → (p ≢ at → Fact (lists p)) → Fact (put_list lists at l p)
put_list_cases lists at l p = cond_cases p at l (lists p)

-- how often a waiter stands in all lists, once one has changed
pub below_put_list : (lists : ℕ → List ℕ) (capacity at : ℕ) (l : List ℕ) (q : ℕ) → at < capacity
    → below (λ c. count q (put_list lists at l c)) capacity + count q (lists at) ≡ below (λ c. count q (lists c))
    capacity + count q l
below_put_list lists capacity at l q near =
    below_at (λ c. count q (lists c)) (λ c. count q (put_list lists at l c)) capacity at near
    (λ p _ ne. put_list_cases lists at l p (λ x. count q x ≡ count q (lists p)) (λ e. absurd (ne e)) (λ _. refl))
    ∙ ap (λ n. below (λ c. count q (lists c)) capacity + n)
    (put_list_cases lists at l at (λ x. count q x ≡ count q l) (λ _. refl) (λ ne. absurd (ne refl)))

-- a fact of each, where it may depend on being one of the list
pub each_with : {A : Type 0} (P Q : A → Type 0) (l : List A) → ((a : A) → Among l a → P a → Q a) → Each P l → Each Q l
each_with P Q [] follows old = tt
each_with P Q (x ∷ xs) follows old = (follows x (inl refl) old.0, each_with P Q xs (λ a at. follows a (inr at)) old.1)

-- a next word that is no waiter's of the chain leaves the chain
pub chain_put : (next : ℕ → ℕ) (q x : ℕ) (l : List ℕ) → count q l ≡ 0 → IsChain next l → IsChain (put next q x) l
chain_put next q x [] none_of old = tt
chain_put next q x (p ∷ ps) none_of old =
    let ne : p ≢ q = λ e. absurd (omega (arith, counts_one p q e)) in
    (put_else next q x p ne ∙ old.0, chain_put next q x ps (omega arith) old.1)

pub chain_rest : (next : ℕ → ℕ) (l : List ℕ) → IsChain next l → IsChain next (rest_of l)
chain_rest next [] old = tt
chain_rest next (p ∷ ps) old = old.1

-- the bits of a run word once one was set
pub set_same : (n b : ℕ) → bit_at (bit_or n (2 ^ b)) b ≡ 1
set_same n b = bit_at_or n (2 ^ b) b ∙ omega (arith, bit_at-lt n b, bit_at-pow_same b)

pub set_other : (n b i : ℕ) → i ≢ b → bit_at (bit_or n (2 ^ b)) i ≡ bit_at n i
set_other n b i ne = bit_at_or n (2 ^ b) i ∙ omega (arith, bit_at-pow_other b i ne)

-- the bits of the mask that leaves one out
mask_same : (b : ℕ) → b < 64 → bit_at (2 ^ 64 - 1 - 2 ^ b) b ≡ 0
mask_same b within = bit_at_not w64 (2 ^ b) b (pow-lt within) within ∙ ap (λ x. 1 - x) (bit_at-pow_same b)

mask_other : (b i : ℕ) → b < 64 → i < 64 → i ≢ b → bit_at (2 ^ 64 - 1 - 2 ^ b) i ≡ 1
mask_other b i within few ne = bit_at_not w64 (2 ^ b) i (pow-lt within) few
    ∙ ap (λ x. 1 - x) (bit_at-pow_other b i ne)

-- and once one was cleared
pub cleared_same : (n b : ℕ) → b < 64 → bit_at (cleared n b) b ≡ 0
cleared_same n b within = bit_at_and n (2 ^ 64 - 1 - 2 ^ b) b ∙ omega (arith, mask_same b within)

pub cleared_other : (n b i : ℕ) → b < 64 → i < 64 → i ≢ b → bit_at (cleared n b) i ≡ bit_at n i
cleared_other n b i within few ne =
    bit_at_and n (2 ^ 64 - 1 - 2 ^ b) i ∙ omega (arith, bit_at-lt n i, mask_other b i within few ne)

-- a bit that was not set is not set after
pub cleared_none : (n b i : ℕ) → bit_at n i ≡ 0 → bit_at (cleared n b) i ≡ 0
cleared_none n b i old = bit_at_and n (2 ^ 64 - 1 - 2 ^ b) i ∙ omega arith
