-- How the words that a seat keeps while it is alone change, where one of them does.
use Rattle.std.proofs.Common.{◌≡◌, ℕ, ◌%◌, ◌^◌, ◌<◌, ◌≤◌, ◌≢◌, nat_le, List, length, length-set, set, get_or-set_other}
use Rattle.std.proofs.Common.{get_or-set_same, bit_or, Option, None, Some, sym, refl, ap}
use Rattle.std.proofs.Common.{subst, ◌∙◌, ⊎_elim, arith}
use Rattle.std.specs.Int.{bit_at}
use Rattle.std.proofs.lemmas.Bool.{cases_eq, cases_lt, lt-leb}
use Rattle.std.proofs.lemmas.Nat.Bits.{bit_at-zero, same_from_bits, bit_at-pow_other, bit_at-pow_same, bit_at-lt}
use Rattle.board_rule.specs.Words.{mem, run_word, head_word, cell_word, next_word}
use Rattle.board_rule.specs.Waiters.{cleared}
use Rattle.board_rule.specs.Seats.{changed}
use Rattle.board_rule.proofs.Chains.{set_other, cleared_same, cleared_other, cleared_none}
use Rattle.goal_board.specs.Alone.{StaysAlone, KeepsBoard, HasWait}
use Rattle.board_rule.proofs.WakeUps.{some_bit}

-- one word has changed
pub stays_changed : (Changes : List ℕ → List ℕ → Type 0) (word x : ℕ) (o : Option (List ℕ))
    → ((kept : List ℕ) → o ≡ Some kept → Changes kept (set kept word x))
    → StaysAlone Changes o (changed word x o)
stays_changed Changes word x None follows = refl
stays_changed Changes word x (Some kept) follows = (set kept word x, refl, follows kept refl)

-- changes, and then others
pub stays_then : (First Second Both : List ℕ → List ℕ → Type 0) → ((a b c : List ℕ) → First a b → Second b c → Both a c)
    → (o p q : Option (List ℕ)) → StaysAlone First o p → StaysAlone Second p q → StaysAlone Both o q
stays_then First Second Both follows None p q first second = subst (λ x. StaysAlone Second x q) first second
stays_then First Second Both follows (Some a) p q first second =
    let t = subst (λ x. StaysAlone Second x q) first.1 second in (t.0, t.1, follows a first.0 t.0 first.2 t.2)

-- changes that come to others
pub stays_as : (First Second : List ℕ → List ℕ → Type 0) (o p : Option (List ℕ))
    → ((a b : List ℕ) → o ≡ Some a → First a b → Second a b) → StaysAlone First o p → StaysAlone Second o p
stays_as First Second None p follows stays = stays
stays_as First Second (Some a) p follows stays = (stays.0, stays.1, follows a stays.0 refl stays.2)

-- what holds of the words of a seat that was alone, and was so before
pub stays_from : (Changes : List ℕ → List ℕ → Type 0) (o p : Option (List ℕ)) (kept : List ℕ) → StaysAlone Changes o p
    → p ≡ Some kept → (before : List ℕ) × (o ≡ Some before) × Changes before kept
stays_from Changes None p kept stays is = let no : ⊥ = cc in absurd no
stays_from Changes (Some a) p kept stays is = let same : stays.0 ≡ kept = cc in
    (a, refl, subst (Changes a) same stays.2)

pub board_then : (place : ℕ) (f g : ℕ → ℕ) (a b c : List ℕ) → KeepsBoard place f a b → KeepsBoard place g b c
    → KeepsBoard place (λ run. g (f run)) a c
board_then place f g a b c first second = record {
  same_length = second.same_length ∙ first.same_length;
  cells = λ p. second.cells p ∙ first.cells p;
  heads = λ p. second.heads p ∙ first.heads p;
  others = λ p apart. second.others p apart ∙ first.others p apart;
  its_run = second.its_run ∙ ap g first.its_run;
}

module _ (place x : ℕ) (words : List ℕ) where
  -- the run word of the place
  pub run_set : (run_after : ℕ → ℕ) → run_word place < length words → x ≡ run_after ((mem words).run place)
      → KeepsBoard place run_after words (set words (run_word place) x)
  run_set run_after near is = record {
    same_length = length-set words (run_word place) x;
    cells = λ p. get_or-set_other words (run_word place) (cell_word p) x 0 (λ e. omega arith);
    heads = λ p. ap (nat_le (2 ^ 63)) (get_or-set_other words (run_word place) (head_word p) x 0 (λ e. omega arith));
    others = λ p apart. get_or-set_other words (run_word place) (run_word p) x 0 (λ e. apart (omega arith));
    its_run = get_or-set_same words (run_word place) x 0 near ∙ is;
  }

  -- a waiter's next word
  pub next_set : (q : ℕ) → KeepsBoard place (λ run. run) words (set words (next_word q) x)
  next_set q =
      let few : q % 8 < 8 = omega arith in record {
        same_length = length-set words (next_word q) x;
        cells = λ p. get_or-set_other words (next_word q) (cell_word p) x 0 (λ e. omega arith);
        heads = λ p. ap (nat_le (2 ^ 63)) (get_or-set_other words (next_word q) (head_word p) x 0 (λ e. omega arith));
        others = λ p apart. get_or-set_other words (next_word q) (run_word p) x 0 (λ e. omega arith);
        its_run = get_or-set_other words (next_word q) (run_word place) x 0 (λ e. omega arith);
      }

  -- the head of a child, from an open one to an open one
  pub head_set : (child : ℕ) → head_word child < length words → (mem words).head child < 2 ^ 63 → x < 2 ^ 63
      → KeepsBoard place (λ run. run) words (set words (head_word child) x)
  head_set child near was_open is_open = record {
    same_length = length-set words (head_word child) x;
    cells = λ p. get_or-set_other words (head_word child) (cell_word p) x 0 (λ e. omega arith);
    heads = λ p. ⊎_elim
        (λ e. let old : (mem words).head p < 2 ^ 63 = subst (λ k. (mem words).head k < 2 ^ 63) (sym e) was_open in
        ap (λ k. nat_le (2 ^ 63) ((mem (set words (head_word child) x)).head k)) e
        ∙ ap (nat_le (2 ^ 63)) (get_or-set_same words (head_word child) x 0 near) ∙ lt-leb (2 ^ 63) x is_open
        ∙ sym (lt-leb (2 ^ 63) ((mem words).head p) old))
        (λ apart. ap (nat_le (2 ^ 63)) (get_or-set_other words (head_word child) (head_word p) x 0
        (λ e. apart (omega arith))))
        (cases_eq p child);
    others = λ p apart. get_or-set_other words (head_word child) (run_word p) x 0 (λ e. omega arith);
    its_run = get_or-set_other words (head_word child) (run_word place) x 0 (λ e. omega arith);
  }

-- a bit that was set and cleared again, of a run word that did not have it
pub set_and_cleared : (run n : ℕ) → n < 8 → bit_at run n ≡ 0 → ((i : ℕ) → 9 ≤ i → bit_at run i ≡ 0)
    → cleared (bit_or run (2 ^ n)) n ≡ run
set_and_cleared run n few unset small = same_from_bits (cleared (bit_or run (2 ^ n)) n) run (λ i.
    ⊎_elim
    (λ here. ap (bit_at (cleared (bit_or run (2 ^ n)) n)) here ∙ cleared_same (bit_or run (2 ^ n)) n (omega arith)
    ∙ sym (ap (bit_at run) here ∙ unset))
    (λ ne. ⊎_elim
    (λ low. cleared_other (bit_or run (2 ^ n)) n i (omega arith) low ne ∙ set_other run n i ne)
    (λ high. cleared_none (bit_or run (2 ^ n)) n i (set_other run n i ne ∙ small i (omega arith))
    ∙ sym (small i (omega arith)))
    (cases_lt i 64))
    (cases_eq i n))

-- a run word with a wait is not 0 without its held bit
pub wait_left : (run : ℕ) → HasWait run → cleared run 8 ≢ 0
wait_left run has gone =
    let b = has.0 in
    let few = has.1 in
    let left : bit_at (cleared run 8) b ≡ bit_at run b =
    cleared_other run 8 b (omega arith) (omega arith) (λ e. omega arith) in
    let none_left : bit_at (cleared run 8) b ≡ 0 = ap (λ n. bit_at n b) gone ∙ bit_at-zero b in
    let is_set = has.2 in
    omega arith

-- a run word with its held bit alone has no wait
pub no_wait : HasWait 256 → ⊥
no_wait has = let b = has.0 in let few = has.1 in let is_set = has.2 in
    let other : bit_at (2 ^ 8) b ≡ 0 = bit_at-pow_other 8 b (λ e. omega arith) in
    let same : bit_at 256 b ≡ bit_at (2 ^ 8) b = refl in
    omega arith

-- a run word with its held bit and another has a wait
pub some_wait : (run : ℕ) → bit_at run 8 ≡ 1 → ((i : ℕ) → 9 ≤ i → bit_at run i ≡ 0) → run ≢ 256 → HasWait run
some_wait run held small more =
    ⊎_elim (λ t. (t.0, t.1, omega (arith, bit_at-lt run t.0, t.2)))
    (λ none. absurd (more (same_from_bits run (2 ^ 8) (λ i.
    ⊎_elim
    (λ here. ap (bit_at run) here ∙ held ∙ sym (ap (bit_at (2 ^ 8)) here ∙ bit_at-pow_same 8))
    (λ ne. ⊎_elim
    (λ low. none i low ∙ sym (bit_at-pow_other 8 i ne))
    (λ high. small i (omega arith) ∙ sym (bit_at-pow_other 8 i ne))
    (cases_lt i 8))
    (cases_eq i 8)))))
    (some_bit run 8)
