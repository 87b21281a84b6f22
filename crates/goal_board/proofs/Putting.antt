-- A wait that is put in: what each turn of its loop leaves.
use Rattle.std.proofs.Common.{◌≡◌, ℕ, ◌+◌, ◌-◌, ◌*◌, ◌/◌, ◌%◌, ◌^◌, ◌<◌}
use Rattle.std.proofs.Common.{◌≤◌, ◌≢◌, false, List, length, ◌++◌, Some, sym, ap}
use Rattle.std.proofs.Common.{subst, ◌∙◌, ⊎_elim, arith, bit_or, Option, refl}
use Rattle.std.specs.Int.{bit_at}
use Rattle.std.proofs.lemmas.Nat.Bits.{bit_at-zero}
use Rattle.board_rule.specs.Meaning.{Meaning}
use Rattle.board_rule.specs.Records.{Claimed, Pending}
use Rattle.board_rule.specs.Words.{cell_word, mem, full_word, run_word, head_word}
use Rattle.board_rule.specs.Waiters.{IsLater, cleared}
use Rattle.board_rule.specs.Looks.{Looked, LastFound}
use Rattle.board_rule.specs.Seats.{Among, waits_at, with_wait, next_stored}
use Rattle.board_rule.specs.May.{HasRight}
use Rattle.board_rule.specs.Plays.{Moment}
use Rattle.board_rule.specs.declared.hands.Hands.{Hands}
use Rattle.board_rule.proofs.Lists.{among_counts}
use Rattle.board_rule.proofs.Rights.{held_by}
use Rattle.board_rule.proofs.Chains.{cleared_other}
use Rattle.board_rule.proofs.Raised.{waits_known}
use Rattle.board_rule.proofs.Lengths.{list_length, first_within}
use Rattle.goal_board.specs.Alone.{StaysAlone, KeepsBoard}
use Rattle.goal_board.specs.Seats.{AreHandsOver, the_wait}
use Rattle.goal_board.specs.RightCalls.{waiting_right, IsRightOf}
use Rattle.goal_board.specs.declared.board.Right.{Right}
use Rattle.goal_board.proofs.Finishing.{among_changed}
use Rattle.goal_board.proofs.Seen.{looked_earlier}
use Rattle.goal_board.proofs.Overs.{sound_at}

-- a wait whose child's head was seen
abbrev pub seen_wait : ℕ → ℕ → ℕ → Pending
seen_wait waiter child head = record { waiter = waiter; child = child; seen = Some head; linked = false }

-- the words that a seat that is alone keeps, once the bit of the waiter was set
abbrev pub Begun : ℕ → Option (List ℕ) → Option (List ℕ) → Type 0
Begun waiter before after = StaysAlone (KeepsBoard (waiter / 8) (λ run. bit_or run (2 ^ (waiter % 8)))) before after

-- the wait is being put in, and the head was seen last
pub record IsPutting {R : Type 0} (capacity : ℕ) (v : Hands R) (waiter child head : ℕ) (w : Hands R) : Type 0 where
  pub more : List (ℕ × ℕ)
  pub quiet : (value : ℕ) → Looked more full_word value → ⊥
  pub saw : LastFound more (head_word child) head
  pub bound : head < 2 ^ 63 → head / 2 ^ 24 ≤ 8 * capacity
  -- a look at the run word, one at the head, and one for each of the waiters of the head at most
  pub rising : head < 2 ^ 63 → length more ≤ head / 2 ^ 24 + 2
  pub few : length more ≤ 8 * capacity + 3
  pub hands_are : w ≡ record v {
    alone = w.alone;
    looks = more ++ v.looks;
    pending = Some (seen_wait waiter child head);
  }
  pub kept : Begun waiter v.alone w.alone

-- the child of the wait, once its waiter's next word was stored
pub linked_child : {R : Type 0} {capacity : ℕ} {v w x : Hands R} {waiter child head : ℕ}
    → IsPutting capacity v waiter child head w
    → x ≡ next_stored w (the_wait w) head → (the_wait x).child ≡ child
linked_child {head = head} p stored =
    ap (λ (h : Hands _). (the_wait h).child)
    (stored ∙ ap (λ (h : Hands _). next_stored h (the_wait h) head) p.hands_are)

module _ {R : Type 0} (meaning_of : R → Meaning) (rules : R) (capacity : ℕ) where
  -- a right's number of waits, as the seat has it
  pub its_waits : (v : Hands R) (word value place waits : ℕ) → AreHandsOver meaning_of rules capacity v
      → Moment meaning_of v word value → place < capacity → Among v.rights (waiting_right place waits)
      → waits_at place v.rights ≡ waits
  its_waits v word value place waits over moment near at =
      let s = (sound_at meaning_of rules capacity v word value over moment).0 in
      let m = mem s.words in
      let has : HasRight capacity v.rights place =
      record {
        near = near;
        held = among_counts (λ (q : Claimed). q.place) v.rights (waiting_right place waits) at;
      } in
      let is = held_by capacity m.run m.head s.views s.id v place s.mine has s.sound.by_kinds.rights in
      waits_known v.rights (waiting_right place waits) (omega (arith, is.right_once)) at

  -- an open head that was found names no more waiters than there are
  pub head_bound : (v : Hands R) (child head : ℕ) → capacity ≤ 2 ^ 20 → child < capacity
      → AreHandsOver meaning_of rules capacity v
      → Moment meaning_of v (head_word child) head → head < 2 ^ 63 → head / 2 ^ 24 ≤ 8 * capacity
  head_bound v child head small near over moment is_open =
      let t = sound_at meaning_of rules capacity v (head_word child) head over moment in
      let s = t.0 in
      let m = mem s.words in
      let k = s.sound.by_kinds in
      let was_open : m.head child < 2 ^ 63 = subst (λ n. n < 2 ^ 63) t.1 is_open in
      let named = t.1 ∙ k.waits.heads child near was_open in
      let long = list_length (meaning_of rules) capacity m.cell m.run m.head m.next s.views k.waits child near in
      let first = first_within (meaning_of rules) capacity m.cell m.run m.head m.next s.views k.waits child near in
      omega arith

  -- the head that is found comes later than the one that was seen
  pub head_later : (v : Hands R) (child head found : ℕ) → AreHandsOver meaning_of rules capacity v
      → Moment meaning_of v (head_word child) found → Looked v.looks (head_word child) head → IsLater head found
  head_later v child head found over moment saw =
      let t = sound_at meaning_of rules capacity v (head_word child) found over moment in
      let s = t.0 in
      subst (IsLater head) (sym t.1) ((s.sound.by_kinds.hands s.id v s.mine).stays.heads child head saw)

  -- the goal whose bit is cleared is held, so that it is not made ready
  pub stays_held : (v : Hands R) (q value : ℕ) → AreHandsOver meaning_of rules capacity v
      → Moment meaning_of v (run_word (q / 8)) value → HasRight capacity v.rights (q / 8) → cleared value (q % 8) ≢ 0
  stays_held v q value over moment has gone =
      let t = sound_at meaning_of rules capacity v (run_word (q / 8)) value over moment in
      let s = t.0 in
      let m = mem s.words in
      let is = held_by capacity m.run m.head s.views s.id v (q / 8) s.mine has s.sound.by_kinds.rights in
      let few : q % 8 < 8 = omega arith in
      let one : bit_at value 8 ≡ 1 = ap (λ n. bit_at n 8) t.1 ∙ is.runs in
      let kept : bit_at (cleared value (q % 8)) 8 ≡ bit_at value 8 =
      cleared_other value (q % 8) 8 (omega arith) (omega arith) (λ e. omega arith) in
      let none_left : bit_at (cleared value (q % 8)) 8 ≡ 0 = ap (λ n. bit_at n 8) gone ∙ bit_at-zero 8 in
      absurd (omega arith)

-- a head that comes later and is another is nearer to the end
pub nearer : (capacity head found : ℕ) → capacity ≤ 2 ^ 20 → head < 2 ^ 63 → head / 2 ^ 24 ≤ 8 * capacity
    → IsLater head found
    → found ≢ head → 8 * capacity + 1 - found / 2 ^ 24 < 8 * capacity + 1 - head / 2 ^ 24
nearer capacity head found small is_open bound later ne =
    ⊎_elim (λ closed. omega arith) (⊎_elim (λ same. absurd (ne same)) (λ t. let more = t.1 in omega arith)) later

-- the place and the number of a waiter
pub waiter_parts : (place waits : ℕ) → waits < 8 → ((8 * place + waits) / 8 ≡ place) × ((8 * place + waits) % 8 ≡ waits)
waiter_parts place waits few = (omega arith, omega arith)

-- the right is the seat's still, with one wait more
pub right_registered : {R : Type 0} (meaning : Meaning) (capacity : ℕ) (v w : Hands R) (right : Right)
    (words : Option (List ℕ)) (more : List (ℕ × ℕ)) → right.waits < 8
    → w ≡ record v { alone = words; looks = more ++ v.looks; rights = with_wait right.place v.rights }
    → IsRightOf meaning capacity v right → IsRightOf meaning capacity w (record right { waits = right.waits + 1 })
right_registered meaning capacity v w right words more few is old =
    subst (λ (h : Hands _). IsRightOf meaning capacity h (record right { waits = right.waits + 1 })) (sym is)
    (let held = among_changed right.place (λ r. record r { waits = r.waits + 1 }) (λ _. refl) v.rights
    (waiting_right right.place right.waits) refl old.held in
    let more_waits : right.waits + 1 ≤ 8 = omega arith in
    let stands = looked_earlier more v.looks (cell_word right.place) right.goal old.stands in
    assumption (old, held, more_waits, stands))

-- or as it was, where the child was finished
pub right_kept : {R : Type 0} (meaning : Meaning) (capacity : ℕ) (v w : Hands R) (right : Right)
    (words : Option (List ℕ))
    (more : List (ℕ × ℕ))
    → w ≡ record v { alone = words; looks = more ++ v.looks } → IsRightOf meaning capacity v right
    → IsRightOf meaning capacity w right
right_kept meaning capacity v w right words more is old =
    subst (λ (h : Hands _). IsRightOf meaning capacity h right) (sym is)
    (let stands = looked_earlier more v.looks (cell_word right.place) right.goal old.stands in
    assumption (old, stands))
