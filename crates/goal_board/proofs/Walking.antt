-- A walk over the waiters of a goal that was finished goes on by one of them, and ends where its list does.
use Rattle.std.proofs.Common.{◌≡◌, ℕ, ◌+◌, ◌-◌, ◌*◌, ◌/◌, ◌%◌, ◌^◌, ◌<◌, ◌≤◌, ◌≢◌, List, [], ◌∷◌, length}
use Rattle.std.proofs.Common.{Option, Some, sym, refl, ap}
use Rattle.std.proofs.Common.{subst, ◌∙◌, ⊎_elim, arith}
use Rattle.std.proofs.lemmas.Bool.{cases_eq, cases_lt}
use Rattle.std.proofs.lemmas.Nat.Bits.{bit_at-zero, bit_at-lt, bit_at-pow_same, bit_at-pow_other, same_from_bits}
use Rattle.std.specs.Int.{bit_at}
use Rattle.board_rule.specs.Meaning.{Meaning}
use Rattle.board_rule.specs.Words.{mem, run_word, next_word}
use Rattle.board_rule.specs.Waiters.{first_of, rest_of, head_of, IsChain, cleared}
use Rattle.board_rule.specs.Seats.{Each, next_read, bit_cleared}
use Rattle.board_rule.specs.Plays.{Moment, ReadsNextOf, ClearsBitOf}
use Rattle.board_rule.specs.declared.hands.Hands.{Hands}
use Rattle.board_rule.proofs.Chains.{count, cleared_same, cleared_other, cleared_none}
use Rattle.board_rule.proofs.Raised.{count_one}
use Rattle.board_rule.proofs.Waits.{hand_parts, handed_waits}
use Rattle.goal_board.specs.Seats.{AreHandsOver}
use Rattle.goal_board.proofs.Overs.{sound_at}
use Rattle.goal_board.proofs.WokenLemmas.{HasWoken, woken_more}

-- a run word of which one bit was set, and none is left without it, was that bit
bit_alone : (found b : ℕ) → b < 8 → bit_at found b ≡ 1 → ((i : ℕ) → 9 ≤ i → bit_at found i ≡ 0) → cleared found b ≡ 0
    → found ≡ 2 ^ b
bit_alone found b few set_bit small gone = same_from_bits found (2 ^ b) (λ i.
    ⊎_elim
    (λ here. ap (bit_at found) here ∙ set_bit ∙ sym (ap (bit_at (2 ^ b)) here ∙ bit_at-pow_same b))
    (λ ne. ⊎_elim
    (λ low. sym (cleared_other found b i (omega arith) low ne) ∙ ap (λ n. bit_at n i) gone ∙ bit_at-zero i
    ∙ sym (bit_at-pow_other b i ne))
    (λ high. small i (omega arith) ∙ sym (bit_at-pow_other b i ne))
    (cases_lt i 64))
    (cases_eq i b))

-- nothing is left of one bit without it
bit_gone : (b : ℕ) → b < 8 → cleared (2 ^ b) b ≡ 0
bit_gone b few = same_from_bits (cleared (2 ^ b) b) 0 (λ i.
    ⊎_elim
    (λ here. ap (bit_at (cleared (2 ^ b) b)) here ∙ cleared_same (2 ^ b) b (omega arith) ∙ sym (bit_at-zero i))
    (λ ne. cleared_none (2 ^ b) b i (bit_at-pow_other b i ne) ∙ sym (bit_at-zero i))
    (cases_eq i b))

module _ {R : Type 0} (meaning_of : R → Meaning) (rules : R) (capacity : ℕ) where
  -- the run word of a waiter that is walked has its bit, and no other above the held bit
  run_found : (v : Hands R) (q value : ℕ) (others : List ℕ) → AreHandsOver meaning_of rules capacity v
      → Moment meaning_of v (run_word (q / 8)) value → v.walk.waiters ≡ q ∷ others
      → (bit_at value (q % 8) ≡ 1) × ((i : ℕ) → 9 ≤ i → bit_at value i ≡ 0)
  run_found v q value others over moment walks =
      let t = sound_at meaning_of rules capacity v (run_word (q / 8)) value over moment in
      let s = t.0 in
      let k = s.sound.by_kinds in
      let m = mem s.words in
      let parts = hand_parts q v.pending v.walk in
      let walked : count q v.walk.waiters ≡ count q (q ∷ others) = ap (count q) walks in
      let first = count_one q q refl in
      let is_set = handed_waits (meaning_of rules) capacity m.cell m.head m.next m.run s.views s.id v s.mine k.waits q
      (omega arith) in
      let near = k.waits.near q is_set in
      let few = bit_at-lt (m.run (q / 8)) (q % 8) in
      let same : value ≡ m.run (q / 8) = t.1 in (
        ap (λ n. bit_at n (q % 8)) same ∙ omega arith,
        λ i high. ap (λ n. bit_at n i) same
            ∙ (k.rights (q / 8) near).small i high,
      )

  -- a next word that is read names the waiter after the first
  next_found : (v : Hands R) (q value : ℕ) (others : List ℕ) → AreHandsOver meaning_of rules capacity v
      → Moment meaning_of v (next_word q) value → v.walk.waiters ≡ q ∷ others → value ≡ first_of others
  next_found v q value others over moment walks =
      let t = sound_at meaning_of rules capacity v (next_word q) value over moment in
      let s = t.0 in
      let chain = subst (IsChain (mem s.words).next) walks (s.sound.by_kinds.hands s.id v s.mine).walked.chained in
      t.1 ∙ chain.0

-- a list that a word names by its first
pub named_first : (l : List ℕ) (name : ℕ) → name ≡ first_of l → name ≢ 0 → (others : List ℕ) × (l ≡ (name - 1) ∷ others)
named_first [] name is some_name = absurd (some_name is)
named_first (q ∷ qs) name is some_name = let e : q ≡ name - 1 = omega arith in (qs, ap (λ p. p ∷ qs) e)

pub named_none : (l : List ℕ) → 0 ≡ first_of l → l ≡ []
named_none [] is = refl
named_none (q ∷ qs) is = absurd (omega arith)

-- the first waiter of a head
pub first_name_of : (capacity : ℕ) (l : List ℕ) (head : ℕ) → capacity ≤ 2 ^ 20 → head ≡ head_of l
    → Each (λ q. q < 8 * capacity) l
    → head % 2 ^ 24 ≡ first_of l
first_name_of capacity [] head small is near = omega arith
first_name_of capacity (q ∷ qs) head small is near = let first = near.0 in omega arith

-- the hands after one turn of the walk
turned : {R : Type 0} (v w u : Hands R) (q name found : ℕ) (others : List ℕ) → v.walk.waiters ≡ q ∷ others
    → w ≡ next_read v q name → u ≡ bit_cleared w q found
    → (u ≡ bit_cleared (next_read v q name) q found) × (u.walk.waiters ≡ others) × (w.walk.waiters ≡ q ∷ others)
turned v w u q name found others walks read cleared_is =
    let both : u ≡ bit_cleared (next_read v q name) q found = cleared_is
    ∙ ap (λ (h : Hands _). bit_cleared h q found) read in (
      both,
      ap (λ (h : Hands _). h.walk.waiters) both ∙ ap rest_of walks,
      ap (λ (h : Hands _). h.walk.waiters) read
          ∙ walks,
    )

-- the walk has woken these, and names the first of the waiters that are left
pub record Walks {R : Type 0} (capacity : ℕ) (v : Hands R) (number : ℕ) (one : Option ℕ) (name : ℕ) (w : Hands R) :
    Type 0
  where
    pub named : name ≡ first_of w.walk.waiters
    pub near : Each (λ q. q < 8 * capacity) w.walk.waiters
    pub few : number + length w.walk.waiters ≤ 8 * capacity
    pub woken : HasWoken capacity v number one w

-- one turn of the walk makes the waiter's goal ready where the run word had its bit alone, and else no goal
pub turns : {R : Type 0} {meaning_of : R → Meaning} {rules : R} {capacity : ℕ} {v w x u : Hands R} {number : ℕ}
    {one : Option ℕ} {q next found : ℕ} {others : List ℕ}
    → w.walk.waiters ≡ q ∷ others → Each (λ p. p < 8 * capacity) w.walk.waiters
    → number + length w.walk.waiters ≤ 8 * capacity
    → HasWoken capacity v number one w
    → AreHandsOver meaning_of rules capacity w → AreHandsOver meaning_of rules capacity x
    → ReadsNextOf meaning_of w q next x
    → ClearsBitOf meaning_of x q found u
    → (found ≡ 2 ^ (q % 8) → Walks capacity v (number + 1) (Some (q / 8)) next u)
    × (found ≢ 2 ^ (q % 8) → Walks capacity v number one next u)
turns {meaning_of} {rules} {capacity} {v} {w} {x} {u} {number} {one} {q} {next} {found} {others} walks near few woken
    over_w
    over_x read clears =
    let t = turned w x u q next found others walks read.hands_are clears.hands_are in
    let each = subst (Each (λ p. p < 8 * capacity)) walks near in
    let first_near : q < 8 * capacity = each.0 in
    let long : length w.walk.waiters ≡ length (q ∷ others) = ap (length {A = ℕ}) walks in
    let left : length u.walk.waiters ≡ length others = ap (length {A = ℕ}) t.1 in
    let within : q % 8 < 8 = omega arith in
    let named : next ≡ first_of u.walk.waiters =
    next_found meaning_of rules capacity w q next others over_w read.moment walks ∙ ap first_of (sym t.1) in
    let near_left : Each (λ p. p < 8 * capacity) u.walk.waiters = subst (Each (λ p. p < 8 * capacity)) (sym t.1)
    each.1 in
    let more = woken_more capacity v w number one q next found woken (omega arith) in
    let run = run_found meaning_of rules capacity x q found others over_x clears.moment t.2 in (
      (λ is. record {
        named = named;
        near = near_left;
        few = omega arith;
        woken = subst (HasWoken capacity v (number + 1) (Some (q / 8))) (sym t.0)
            (more.0 (ap (λ n. cleared n (q % 8)) is ∙ bit_gone (q % 8) within));
      }),
      (λ other. record {
        named = named;
        near = near_left;
        few = omega arith;
        woken = subst (HasWoken capacity v number one) (sym t.0)
            (more.1 (λ gone. other (bit_alone found (q % 8) within run.0 run.1 gone)));
      }),
    )
