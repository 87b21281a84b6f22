-- Numbers of places: where what holds changes at one place alone, or at none.
use Rattle.std.proofs.Common.{◌≡◌, ◌≢◌, ℕ, zero, suc, ◌+◌, ◌*◌, ◌<◌, ◌≤◌, ◌==◌, Bool, true, false, not, ◌&&◌, cond}
use Rattle.std.proofs.Common.{List, length, slice_set, eq-eqb, ne_eqb, ap, sym, refl, ◌∙◌, arith, get_or-set_other}
use Rattle.std.proofs.Common.{get_or-set_same, nat_le, ◌^◌}
use Rattle.std.proofs.lemmas.Bool.{and_right}
use mathlib.Core.Logic.{dite}
use native.Mathlib.Decide.{ℕ_discrete}
use Rattle.board_rule.specs.Meaning.{Meaning}
use Rattle.board_rule.specs.Words.{Mem, mem, cell_word, run_word, head_word}
use Rattle.board_moves.specs.Counts.{number_below, has_ready, has_empty, has_open, ready_count, empty_count, open_count}

abbrev pub one_if : Bool → ℕ
one_if b = cond b 1 0

few_if : (b : Bool) → one_if b ≤ 1
few_if true = omega arith
few_if false = omega arith

-- at most as many as there are places
pub number_at_most : (p : ℕ → Bool) (n : ℕ) → number_below p n ≤ n
number_at_most p zero = omega arith
number_at_most p (suc n) = omega (arith, number_at_most p n, few_if (p n))

pub number_same : (p q : ℕ → Bool) (n : ℕ) → ((k : ℕ) → k < n → q k ≡ p k) → number_below q n ≡ number_below p n
number_same p q zero same = refl
number_same p q (suc n) same =
    let here : one_if (q n) ≡ one_if (p n) = ap one_if (same n (omega arith)) in
    let rest = number_same p q n (λ k near. same k (omega arith)) in
    omega (arith, here, rest)

-- the number changes as what holds at the place
pub one_changed : (p q : ℕ → Bool) (n at : ℕ) → at < n → ((k : ℕ) → k < n → k ≢ at → q k ≡ p k)
    → number_below q n + one_if (p at) ≡ number_below p n + one_if (q at)
one_changed p q zero at near same = absurd (omega arith)
one_changed p q (suc n) at near same =
    dite (ℕ_discrete at n)
    (λ (e : at ≡ n).
    let rest = number_same p q n (λ k below. same k (omega arith) (λ d. omega arith)) in
    let p_here : one_if (p at) ≡ one_if (p n) = ap (λ k. one_if (p k)) e in
    let q_here : one_if (q at) ≡ one_if (q n) = ap (λ k. one_if (q k)) e in
    omega (arith, rest, p_here, q_here))
    (λ (ne : at ≢ n).
    let here : one_if (q n) ≡ one_if (p n) = ap one_if (same n (omega arith) (λ e. ne (sym e))) in
    let rest = one_changed p q n at (omega arith) (λ k below apart. same k (omega arith) apart) in
    omega (arith, here, rest))

module _ (kept : List ℕ) (at x : ℕ) where
  abbrev run_set : Mem
  run_set = mem (slice_set kept (run_word at) x)

  -- a run word that changes leaves the other words as they were
  cell_kept : (p : ℕ) → run_set.cell p ≡ (mem kept).cell p
  cell_kept p = get_or-set_other kept (run_word at) (cell_word p) x 0 (λ e. omega arith)

  head_kept : (p : ℕ) → run_set.head p ≡ (mem kept).head p
  head_kept p = get_or-set_other kept (run_word at) (head_word p) x 0 (λ e. omega arith)

  run_kept : (p : ℕ) → p ≢ at → run_set.run p ≡ (mem kept).run p
  run_kept p apart = get_or-set_other kept (run_word at) (run_word p) x 0 (λ e. apart (omega arith))

  run_here : (capacity : ℕ) → at < capacity → length kept ≡ 14 * capacity + 1 → run_set.run at ≡ x
  run_here capacity near long = get_or-set_same kept (run_word at) x 0 (omega arith)

-- a goal that was ready was claimed: one is ready less, and no more has changed
pub record CountsClaim (meaning : Meaning) (capacity : ℕ) (before after : List ℕ) : Type 0 where
  pub fewer_ready : ready_count meaning capacity after + 1 ≡ ready_count meaning capacity before
  pub same_empty : empty_count capacity after ≡ empty_count capacity before
  pub same_open : open_count capacity after ≡ open_count capacity before

pub claim_counts : (meaning : Meaning) (capacity at : ℕ) (kept : List ℕ) → at < capacity
    → length kept ≡ 14 * capacity + 1
    → (mem kept).cell at ≢ 0 → meaning.goal ((mem kept).cell at) ≡ true → (mem kept).run at ≡ 0
    → CountsClaim meaning capacity kept (slice_set kept (run_word at) 256)
claim_counts meaning capacity at kept near long some_goal is_goal is_ready =
    let m : Mem = mem kept in
    let after : Mem = run_set kept at 256 in
    let was : has_ready meaning m at ≡ true =
    ap (λ b. (not b && meaning.goal (m.cell at)) && (m.run at == 0)) (ne_eqb (m.cell at) 0 some_goal)
    ∙ (ap (λ b. b && (m.run at == 0)) is_goal ∙ eq-eqb (m.run at) 0 is_ready) in
    let busy : (after.run at == 0) ≡ false =
    ne_eqb (after.run at) 0 (λ e. let here = run_here kept at 256 capacity near long in omega arith) in
    let now : has_ready meaning after at ≡ false =
    and_right (not (after.cell at == 0) && meaning.goal (after.cell at)) (after.run at == 0) busy in
    let others : (k : ℕ) → k < capacity → k ≢ at → has_ready meaning after k ≡ has_ready meaning m k =
    λ k below apart. ap (λ (t : ℕ × ℕ). (not (t.0 == 0) && meaning.goal t.0) && (t.1 == 0))
    (λ i. (cell_kept kept at 256 k i, run_kept kept at 256 k apart i)) in
    let one = one_changed (has_ready meaning m) (has_ready meaning after) capacity at near others in
    let p_here : one_if (has_ready meaning m at) ≡ 1 = ap one_if was in
    let q_here : one_if (has_ready meaning after at) ≡ 0 = ap one_if now in
    record {
      fewer_ready = omega (arith, one, p_here, q_here);
      same_empty = number_same (has_empty m) (has_empty after) capacity
          (λ k below. ap (λ c. c == 0) (cell_kept kept at 256 k));
      same_open = number_same (has_open m) (has_open after) capacity
          (λ k below. ap (λ h. not (nat_le (2 ^ 63) h)) (head_kept kept at 256 k));
    }
