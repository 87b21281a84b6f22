-- What the bit of a waiter in a seat's hands leaves of each topic when it is cleared.
use Rattle.std.proofs.Common.{◌≡◌, ℕ, ◌+◌, ◌*◌, ◌/◌, ◌%◌, ◌<◌, ◌≤◌, ◌≢◌, List, [], ◌∷◌, Option, None, Some, set, sym}
use Rattle.std.proofs.Common.{refl, ap, subst, ◌∙◌, ⊎_elim, arith}
use mathlib.Core.Option.{some}
use lib.ListN.{get_elem?}
use Rattle.std.specs.Int.{bit_at}
use Rattle.std.proofs.lemmas.Bool.{cases_eq}
use Rattle.board_rule.specs.Meaning.{Meaning}
use Rattle.board_rule.specs.Records.{Claimed, Pending}
use Rattle.board_rule.specs.Words.{Mem, put}
use Rattle.board_rule.specs.Waiters.{wait_bit, waiting, cleared}
use Rattle.board_rule.specs.Seats.{Each, in_hand}
use Rattle.board_rule.specs.Soundness.{IsRaised, KeepsRights, KeepsWaits, ended}
use Rattle.board_rule.specs.declared.hands.Hands.{Hands}
use Rattle.board_rule.proofs.Lists.{put_here, put_cases, each_as, total-set}
use Rattle.board_rule.proofs.Rights.{rights_at_run}
use Rattle.board_rule.proofs.Chains.{count, cleared_same, cleared_other, cleared_none}
use Rattle.board_rule.proofs.Raised.{count_one, count_none}
use Rattle.board_rule.proofs.Claiming.{held_alone}
use Rattle.board_rule.proofs.Waits.{IsInHand, in_hand_once}

-- the run words once the waiter's bit was cleared
abbrev pub run_cleared : (ℕ → ℕ) → ℕ → ℕ → ℕ
run_cleared run q = put run (q / 8) (cleared (run (q / 8)) (q % 8))

pub bit_here : (run : ℕ → ℕ) (q : ℕ) → wait_bit (run_cleared run q) q ≡ 0
bit_here run q =
    let few : q % 8 < 8 = omega arith in
    ap (λ n. bit_at n (q % 8)) (put_here run (q / 8) (cleared (run (q / 8)) (q % 8)))
    ∙ cleared_same (run (q / 8)) (q % 8) (omega arith)

pub bit_else : (run : ℕ → ℕ) (q p b : ℕ) → b < 8 → 8 * p + b ≢ q → bit_at (run_cleared run q p) b ≡ bit_at (run p) b
bit_else run q p b few ne =
    put_cases run (q / 8) (cleared (run (q / 8)) (q % 8)) p (λ n. bit_at n b ≡ bit_at (run p) b)
    (λ at. let within : q % 8 < 8 = omega arith in
    cleared_other (run (q / 8)) (q % 8) b (omega arith) (omega arith) (λ e. ne (omega arith))
    ∙ ap (λ k. bit_at (run k) b) (sym at))
    (λ _. refl)

wait_else : (run : ℕ → ℕ) (q p : ℕ) → p ≢ q → wait_bit (run_cleared run q) p ≡ wait_bit run p
wait_else run q p ne = let few : p % 8 < 8 = omega arith in bit_else run q (p / 8) (p % 8) few (λ e. ne (omega arith))

-- the rights of a seat that does not put the waiter in are raised as before
pub raised_cleared : (run : ℕ → ℕ) (q : ℕ) (pending : Option Pending) (rights : List Claimed) → 1 ≤ wait_bit run q
    → count q (waiting pending) ≡ 0
    → Each (IsRaised run pending) rights → Each (IsRaised (run_cleared run q) pending) rights
raised_cleared run q pending rights is_set none_of =
    each_as (IsRaised run pending) (IsRaised (run_cleared run q) pending)
    (λ r old. record {
      few = old.few;
      others = λ b more few.
          ⊎_elim
          (λ here.
          let was = old.others b more few in
          let zero_count : count (8 * r.place + b) (waiting pending) ≡ 0 = ap (λ p. count p (waiting pending)) here
          ∙ none_of in
          let at : r.place ≡ q / 8 = omega arith in
          let bit : b ≡ q % 8 = omega arith in
          let same : bit_at (run r.place) b ≡ wait_bit run q = λ i. bit_at (run (at i)) (bit i) in
          absurd (omega arith))
          (λ ne. bit_else run q r.place b few ne ∙ old.others b more few)
          (cases_eq (8 * r.place + b) q);
    }) rights

-- those of a seat that put it in are without it
pub raised_dropped : (run : ℕ → ℕ) (x : Pending) (rights : List Claimed) → Each (IsRaised run (Some x)) rights
    → Each (IsRaised (run_cleared run x.waiter) None) rights
raised_dropped run x rights =
    each_as (IsRaised run (Some x)) (IsRaised (run_cleared run x.waiter) None)
    (λ r old. record {
      few = old.few;
      others = λ b more few.
          ⊎_elim
          (λ here.
          let at : r.place ≡ x.waiter / 8 = omega arith in
          let bit : b ≡ x.waiter % 8 = omega arith in
          (λ i. bit_at (run_cleared run x.waiter (at i)) (bit i)) ∙ bit_here run x.waiter)
          (λ ne. bit_else run x.waiter r.place b few ne ∙ old.others b more few
          ∙ count_none (8 * r.place + b) x.waiter ne)
          (cases_eq (8 * r.place + b) x.waiter);
    }) rights

module _ {R : Type 0} (meaning : Meaning) (capacity : ℕ) (m : Mem) (views : List (Hands R)) (id : ℕ) (v w : Hands R)
    (q : ℕ)
    (mine : get_elem? views id ≡ some v)
    (one_less : (p : ℕ) → count p (in_hand v.pending v.walk) ≡ count p (q ∷ []) + count p (in_hand w.pending w.walk))
    (waits : KeepsWaits meaning capacity m.cell m.run m.head m.next views) where
  -- the waiter stood in the seat's hands, and its bit was set
  pub was_in_hand : IsInHand capacity m.run waits.lists views id v q
  was_in_hand = in_hand_once meaning capacity m views id v q waits mine (omega (arith, one_less q, count_one q q refl))

  -- it stands there no more
  pub not_again : count q (in_hand w.pending w.walk) ≡ 0
  not_again = omega (arith, was_in_hand.once, one_less q, count_one q q refl)

  pub waits_cleared : KeepsWaits meaning capacity m.cell (run_cleared m.run q) m.head m.next (set views id w)
  waits_cleared = record {
    lists = waits.lists;
    none_left = waits.none_left;
    heads = waits.heads;
    chains = waits.chains;
    joined = waits.joined;
    once = λ p.
        let hands = total-set (λ (u : Hands R). count p (in_hand u.pending u.walk)) views id v w mine in
        let once = waits.once p in
        let less = one_less p in
        ⊎_elim
        (λ (e : p ≡ q).
        let now : wait_bit (run_cleared m.run q) p ≡ 0 = ap (wait_bit (run_cleared m.run q)) e ∙ bit_here m.run q in
        let was : wait_bit m.run p ≡ 1 = ap (wait_bit m.run) e ∙ was_in_hand.is_set in
        omega (arith, count_one p q e))
        (λ (ne : p ≢ q). omega (arith, wait_else m.run q p ne, count_none p q ne))
        (cases_eq p q);
    near = λ p is_set.
        ⊎_elim
        (λ (e : p ≡ q). waits.near p (omega (arith, ap (wait_bit m.run) e, was_in_hand.is_set)))
        (λ (ne : p ≢ q). waits.near p (subst (λ n. 1 ≤ n) (wait_else m.run q p ne) is_set))
        (cases_eq p q);
  }

  pub rights_cleared : w.rights ≡ v.rights → w.done ≡ v.done → KeepsRights capacity m.run m.head views
      → KeepsRights capacity (run_cleared m.run q) m.head (set views id w)
  rights_cleared rights done old =
      let place : ℕ = q / 8 in
      let few : q % 8 < 8 = omega arith in
      let near : place < capacity = waits.near q (omega (arith, was_in_hand.is_set)) in
      let was = old place near in
      let unsettled : ended views place ≡ 1 → ⊥ = λ one.
      let zero_bit : wait_bit m.run q ≡ 0 = ap (λ n. bit_at n (q % 8)) (was.run_ended one)
      ∙ held_alone (q % 8) (λ e. omega arith) in
      absurd (omega (arith, was_in_hand.is_set)) in
      rights_at_run views id v w mine capacity m.run m.head place (cleared (m.run place) (q % 8)) near
      (omega (arith, was.once, unsettled))
      (cleared_other (m.run place) (q % 8) 8 (omega arith) (omega arith) (λ e. omega arith))
      (λ i _ none. cleared_none (m.run place) (q % 8) i none) rights done old
