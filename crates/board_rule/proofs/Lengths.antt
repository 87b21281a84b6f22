-- A list of different waiters is no longer than there are waiters, so the head that names it is a number of 48 bits.
use Rattle.std.proofs.Common.{◌≡◌, ℕ, zero, suc, ◌+◌, ◌*◌, ◌/◌, ◌%◌, ◌<◌, ◌≤◌, List, [], ◌∷◌, length, cond, eqb, refl}
use Rattle.std.proofs.Common.{◌∙◌, ⊎_elim, arith}
use Rattle.std.proofs.lemmas.Bool.{cases_eq}
use Rattle.std.proofs.lemmas.Nat.Bits.{bit_at-lt}
use Rattle.board_rule.specs.Meaning.{Meaning}
use Rattle.board_rule.specs.Waiters.{first_of, below}
use Rattle.board_rule.specs.Seats.{Each}
use Rattle.board_rule.specs.Soundness.{KeepsWaits}
use Rattle.board_rule.specs.declared.hands.Hands.{Hands}
use Rattle.board_rule.proofs.Chains.{count, below_none, below_term}
use Rattle.board_rule.proofs.Lists.{counts_one, counts_none}

below_add : (f g : ℕ → ℕ) (n : ℕ) → below (λ p. f p + g p) n ≡ below f n + below g n
below_add f g zero = refl
below_add f g (suc n) = omega (arith, below_add f g n)

below_most : (f : ℕ → ℕ) (n : ℕ) → ((p : ℕ) → f p ≤ 1) → below f n ≤ n
below_most f zero few = omega arith
below_most f (suc n) few = omega (arith, few n, below_most f n few)

-- one place is counted once
below_one : (q n : ℕ) → q < n → below (λ p. cond (eqb q p) 1 0) n ≡ 1
below_one q zero within = absurd (omega arith)
below_one q (suc n) within =
    ⊎_elim
    (λ here. let none_below = below_none (λ p. cond (eqb q p) 1 0) n (λ p less. counts_none q p (λ e. omega arith)) in
    omega (arith, counts_one q n here))
    (λ ne. omega (arith, counts_none q n ne, below_one q n (omega arith)))
    (cases_eq q n)

-- the waiters of a list, counted one by one
length_below : (l : List ℕ) (n : ℕ) → Each (λ q. q < n) l → below (λ p. count p l) n ≡ length l
length_below [] n within = below_none (λ p. count p []) n (λ p _. refl)
length_below (q ∷ qs) n within =
    below_add (λ p. cond (eqb q p) 1 0) (λ p. count p qs) n
    ∙ omega (arith, below_one q n within.0, length_below qs n within.1)

each_within : (n : ℕ) (l : List ℕ) → ((q : ℕ) → 1 ≤ count q l → q < n) → Each (λ q. q < n) l
each_within n [] within = tt
each_within n (q ∷ qs) within = (
  within q (omega (arith, counts_one q q refl)),
  each_within n qs (λ p some_count. within p (omega arith)),
)

-- different waiters below a number are no more than it
pub few_waiters : (l : List ℕ) (n : ℕ) → ((q : ℕ) → count q l ≤ 1) → ((q : ℕ) → 1 ≤ count q l → q < n) → length l ≤ n
few_waiters l n once within = let same = length_below l n (each_within n l within) in let most =
    below_most (λ p. count p l) n once in omega arith

module _ {R : Type 0} (meaning : Meaning) (capacity : ℕ) (cell run head next : ℕ → ℕ) (views : List (Hands R))
    (waits : KeepsWaits meaning capacity cell run head next views)
    (c : ℕ) (near : c < capacity) where
  -- a waiter stands at most once in the list of a place
  listed_once : (q : ℕ) → count q (waits.lists c) ≤ 1
  listed_once q =
      let once = waits.once q in
      let few = bit_at-lt (run (q / 8)) (q % 8) in
      let term = below_term (λ p. count q (waits.lists p)) capacity c near in
      omega arith

  listed_within : (q : ℕ) → 1 ≤ count q (waits.lists c) → q < 8 * capacity
  listed_within q at =
      let once = waits.once q in
      let term = below_term (λ p. count q (waits.lists p)) capacity c near in
      let place = waits.near q (omega arith) in
      omega arith

  -- the waiters of a list are those of goals of the board
  pub waiters_within : Each (λ q. q < 8 * capacity) (waits.lists c)
  waiters_within = each_within (8 * capacity) (waits.lists c) listed_within

  pub list_length : length (waits.lists c) ≤ 8 * capacity
  list_length = few_waiters (waits.lists c) (8 * capacity) listed_once listed_within

  pub first_within : first_of (waits.lists c) ≤ 8 * capacity
  first_within = of (waits.lists c) listed_within
    where
      of : (l : List ℕ) → ((q : ℕ) → 1 ≤ count q l → q < 8 * capacity) → first_of l ≤ 8 * capacity
      of [] within = omega arith
      of (q ∷ qs) within = let less = within q (omega (arith, counts_one q q refl)) in omega arith
