-- A wait that was put in, or that was dropped as its child is finished.
use Rattle.std.proofs.Common.{◌≡◌, ℕ, ◌+◌, ◌*◌, ◌/◌, ◌%◌, ◌^◌, ◌<◌, ◌≤◌, List, ◌∷◌, ◌++◌, cond, ne_eqb, bit_or, get_or}
use Rattle.std.proofs.Common.{Option, None, Some, sym, refl, ap, subst, ◌∙◌, inl, inr, ⊎_elim, arith}
use Rattle.std.specs.Int.{bit_at}
use Rattle.board_rule.specs.Meaning.{Meaning}
use Rattle.board_rule.specs.Records.{Pending}
use Rattle.board_rule.specs.Words.{mem, run_word, head_word, next_word}
use Rattle.board_rule.specs.Waiters.{pushed, cleared, waiting}
use Rattle.board_rule.specs.Seats.{Among, changed, waits_at, with_wait, wait_begun, next_stored, wait_put}
use Rattle.board_rule.specs.Seats.{wait_dropped}
use Rattle.board_rule.specs.Soundness.{IsRaised}
use Rattle.board_rule.specs.May.{HasRight}
use Rattle.board_rule.specs.Plays.{Moment, Leaves}
use Rattle.board_rule.specs.declared.hands.Hands.{Hands}
use Rattle.board_rule.proofs.Lists.{each_at}
use Rattle.board_rule.proofs.Chains.{count, set_same}
use Rattle.goal_board.specs.Alone.{StaysAlone, KeepsBoard}
use Rattle.goal_board.specs.Seats.{AreHandsOver, the_wait}
use Rattle.goal_board.specs.RightCalls.{waiting_right, Registers, FindsFinished}
use Rattle.goal_board.proofs.Overs.{sound_at}
use Rattle.goal_board.proofs.Kept.{stays_changed, stays_then, stays_as, stays_from, board_then, run_set, next_set}
use Rattle.goal_board.proofs.Kept.{head_set, set_and_cleared}
use Rattle.goal_board.proofs.Seen.{agrees_at}
use Rattle.goal_board.proofs.Putting.{Begun, IsPutting, waiter_parts, stays_held}

-- a next word was stored
pub kept_linked : (q x : ℕ) (o p : Option (List ℕ)) → Begun q o p → Begun q o (changed (next_word q) x p)
kept_linked q x o p old =
    let sets : ℕ → ℕ = λ run. bit_or run (2 ^ (q % 8)) in
    stays_then (KeepsBoard (q / 8) sets) (KeepsBoard (q / 8) (λ run. run)) (KeepsBoard (q / 8) sets)
    (board_then (q / 8) sets (λ run. run)) o p (changed (next_word q) x p) old
    (stays_changed (KeepsBoard (q / 8) (λ run. run)) (next_word q) x p (λ kept _. next_set (q / 8) x kept q))

module _ {R : Type 0} (meaning_of : R → Meaning) (rules : R) (capacity : ℕ) where
  -- a step found the word that is kept
  kept_word : (v : Hands R) (word found : ℕ) → AreHandsOver meaning_of rules capacity v → Moment meaning_of v word found
      → (kept : List ℕ) → v.alone ≡ Some kept → found ≡ get_or kept word 0
  kept_word v word found over moment kept is =
      sym (agrees_at meaning_of rules capacity v word found over moment kept is word found (inl (refl, refl)))

  -- the bit of the right's next wait was set
  pub kept_begun : (v : Hands R) (place waits found : ℕ) → AreHandsOver meaning_of rules capacity v
      → Moment meaning_of v (run_word place) found → place < capacity → waits < 8
      → waits_at place v.rights ≡ waits → Begun (8 * place + waits) v.alone (wait_begun v place found).alone
  kept_begun v place waits found over moment near few is =
      let parts = waiter_parts place waits few in
      let x : ℕ = bit_or found (2 ^ waits_at place v.rights) in
      subst (λ (t : ℕ × ℕ). StaysAlone (KeepsBoard t.0 (λ run. bit_or run (2 ^ t.1))) v.alone
      (changed (run_word place) x v.alone)) (λ i. (sym parts.0 i, sym parts.1 i))
      (stays_changed (KeepsBoard place (λ run. bit_or run (2 ^ waits))) (run_word place) x v.alone
      (λ kept alone. run_set place x kept (λ run. bit_or run (2 ^ waits)) (let long = over.all kept alone in
      omega arith)
      (ap (λ n. bit_or found (2 ^ n)) is ∙ ap (λ run. bit_or run (2 ^ waits))
      (kept_word v (run_word place) found over moment kept alone))))

  -- the child's head, which was open, was given one waiter more
  kept_put : (u : Hands R) (q child head x : ℕ) (o : Option (List ℕ)) → AreHandsOver meaning_of rules capacity u
      → Moment meaning_of u (head_word child) head → child < capacity → head < 2 ^ 63 → x < 2 ^ 63
      → Begun q o u.alone → Begun q o (changed (head_word child) x u.alone)
  kept_put u q child head x o over moment near was_open is_open old =
      let sets : ℕ → ℕ = λ run. bit_or run (2 ^ (q % 8)) in
      stays_then (KeepsBoard (q / 8) sets) (KeepsBoard (q / 8) (λ run. run)) (KeepsBoard (q / 8) sets)
      (board_then (q / 8) sets (λ run. run)) o u.alone (changed (head_word child) x u.alone) old
      (stays_changed (KeepsBoard (q / 8) (λ run. run)) (head_word child) x u.alone
      (λ kept alone. head_set (q / 8) x kept child (let long = over.all kept alone in omega arith)
      (subst (λ n. n < 2 ^ 63) (kept_word u (head_word child) head over moment kept alone) was_open) is_open))

  -- the bit was cleared
  kept_dropped : (u : Hands R) (q found : ℕ) (o : Option (List ℕ)) → AreHandsOver meaning_of rules capacity u
      → Moment meaning_of u (run_word (q / 8)) found → q / 8 < capacity → Begun q o u.alone
      → StaysAlone (KeepsBoard (q / 8) (λ run. cleared (bit_or run (2 ^ (q % 8))) (q % 8))) o
      (changed (run_word (q / 8)) (cleared found (q % 8)) u.alone)
  kept_dropped u q found o over moment near old =
      let sets : ℕ → ℕ = λ run. bit_or run (2 ^ (q % 8)) in
      let clears : ℕ → ℕ = λ run. cleared run (q % 8) in
      stays_then (KeepsBoard (q / 8) sets) (KeepsBoard (q / 8) clears) (KeepsBoard (q / 8) (λ run. clears (sets run)))
      (board_then (q / 8) sets clears) o u.alone
      (changed (run_word (q / 8)) (cleared found (q % 8)) u.alone) old
      (stays_changed (KeepsBoard (q / 8) clears) (run_word (q / 8)) (cleared found (q % 8)) u.alone
      (λ kept alone. run_set (q / 8) (cleared found (q % 8)) kept clears (let long = over.all kept alone in omega arith)
      (ap clears (kept_word u (run_word (q / 8)) found over moment kept alone))))

  -- the bit of a right's next wait was not set before
  next_unset : (v : Hands R) (place waits found : ℕ) → AreHandsOver meaning_of rules capacity v
      → Moment meaning_of v (run_word place) found → place < capacity → waits < 8
      → Among v.rights (waiting_right place waits) → v.pending ≡ None → cleared (bit_or found (2 ^ waits)) waits ≡ found
  next_unset v place waits found over moment near few held none_pending =
      let t = sound_at meaning_of rules capacity v (run_word place) found over moment in
      let s = t.0 in
      let m = mem s.words in
      let raised : IsRaised m.run v.pending (waiting_right place waits) =
      each_at (IsRaised m.run v.pending) v.rights (waiting_right place waits)
      (s.sound.by_kinds.hands s.id v s.mine).raised held in
      set_and_cleared found waits few
      (ap (λ n. bit_at n waits) t.1 ∙ raised.others waits (omega arith) few
      ∙ ap (λ o. count (8 * place + waits) (waiting o)) none_pending)
      (λ i high. ap (λ n. bit_at n i) t.1 ∙ (s.sound.by_kinds.rights place near).small i high)

  -- the goal waits for the child
  pub registers : (v w u z : Hands R) (place waits child head : ℕ) → capacity ≤ 2 ^ 20 → place < capacity → waits < 8
      → waits_at place v.rights ≡ waits → v.pending ≡ None
      → IsPutting capacity v (8 * place + waits) child head w → u ≡ next_stored w (the_wait w) head
      → AreHandsOver meaning_of rules capacity u → Moment meaning_of u (head_word child) head
      → child < capacity → head < 2 ^ 63 → z ≡ wait_put u (the_wait u) head → Registers capacity v place child z
  registers v w u z place waits child head small near few is none_pending p linked over moment child_near was_open put =
      let q : ℕ = 8 * place + waits in
      let parts = waiter_parts place waits few in
      let stored = linked ∙ ap (λ (h : Hands R). next_stored h (the_wait h) head) p.hands_are in
      let all = put ∙ ap (λ (h : Hands R). wait_put h (the_wait h) head) stored in
      let looks : List (ℕ × ℕ) = (head_word child, head) ∷ p.more in
      let before : Begun q v.alone u.alone = subst (Begun q v.alone) (sym (ap (λ (h : Hands R). h.alone) stored))
      (kept_linked q (head % 2 ^ 24) v.alone w.alone p.kept) in
      let x_open : pushed head q < 2 ^ 63 = let bound = p.bound was_open in omega arith in
      let after : Begun q v.alone (changed (head_word child) (pushed head q) u.alone) =
      kept_put u q child head (pushed head q) v.alone over moment child_near was_open x_open before in
      let z_alone : z.alone ≡ changed (head_word child) (pushed head q) u.alone =
      ap (λ (h : Hands R). h.alone) put ∙ ap (λ (x : Pending).
      changed (head_word x.child) (pushed head x.waiter) u.alone) (ap (λ (h : Hands R). the_wait h) stored) in
      let kept : StaysAlone (KeepsBoard place (λ run. bit_or run (2 ^ waits_at place v.rights))) v.alone z.alone =
      subst (λ (t : ℕ × ℕ). StaysAlone (KeepsBoard t.0 (λ run. bit_or run (2 ^ t.1))) v.alone z.alone)
      (λ i. (parts.0 i, (parts.1 ∙ sym is) i)) (subst (Begun q v.alone) (sym z_alone) after) in
      record {
        words = z.alone;
        more = looks;
        head = head;
        looks = record {
          quiet = λ value at. ⊎_elim (λ t. omega (arith, t.0)) (λ t. p.quiet value t) at;
          last = inl (refl, refl);
          few = let few = p.few in omega arith;
        };
        was_open = was_open;
        hands_are = all ∙ (λ i. record v {
          alone = sym (ap (λ (h : Hands R). h.alone) all) i;
          looks = looks ++ v.looks;
          rights = with_wait (parts.0 i) v.rights;
          pending = sym none_pending i;
        });
        lone = record {
          kept = kept;
          has_wait = λ words alone. let t = stays_from
              (KeepsBoard place (λ run. bit_or run (2 ^ waits_at place v.rights))) v.alone z.alone words kept alone in (
                waits_at place v.rights,
                subst (λ n. n < 8) (sym is) few,
                ap (λ n. bit_at n (waits_at place v.rights)) t.2.its_run
                    ∙ set_same ((mem t.0).run place) (waits_at place v.rights),
              );
        };
      }

  -- the child is finished
  pub finds_finished : (v w z : Hands R) (place waits child head first found : ℕ) → place < capacity → waits < 8
      → v.pending ≡ None → Among v.rights (waiting_right place waits) → HasRight capacity v.rights place
      → AreHandsOver meaning_of rules capacity v → Moment meaning_of v (run_word place) first
      → IsPutting capacity v (8 * place + waits) child head w → 2 ^ 63 ≤ head
      → AreHandsOver meaning_of rules capacity w → Leaves meaning_of w (run_word ((8 * place + waits) / 8)) found
      (wait_dropped w (the_wait w) found) z → FindsFinished capacity v place child z
  finds_finished v w z place waits child head first found near few none_pending held has over_v first_moment p closed
      over_w told =
      let q : ℕ = 8 * place + waits in
      let parts = waiter_parts place waits few in
      let is = told.hands_are ∙ ap (λ (h : Hands R). wait_dropped h (the_wait h) found) p.hands_are in
      let at : HasRight capacity v.rights (q / 8) = subst (HasRight capacity v.rights) (sym parts.0) has in
      let left = stays_held meaning_of rules capacity w q found over_w told.moment
      (subst (λ (h : Hands R). HasRight capacity h.rights (q / 8)) (sym p.hands_are) at) in
      let looks : List (ℕ × ℕ) = (run_word (q / 8), found) ∷ p.more in
      let dropped = kept_dropped w q found v.alone over_w told.moment at.near p.kept in
      let here : StaysAlone (KeepsBoard place (λ run. cleared (bit_or run (2 ^ waits)) waits)) v.alone z.alone =
      subst (λ (t : ℕ × ℕ). StaysAlone (KeepsBoard t.0 (λ run. cleared (bit_or run (2 ^ t.1)) t.1)) v.alone z.alone)
      (λ i. (parts.0 i, parts.1 i))
      (subst (StaysAlone (KeepsBoard (q / 8) (λ run. cleared (bit_or run (2 ^ (q % 8))) (q % 8))) v.alone)
      (sym (ap (λ (h : Hands R). h.alone) is)) dropped) in
      record {
        words = z.alone;
        more = looks;
        head = head;
        looks = record {
          quiet = λ value at. ⊎_elim (λ t. omega (arith, t.0)) (λ t. p.quiet value t) at;
          last = inr ((λ e. omega arith), p.saw);
          few = let few = p.few in omega arith;
        };
        closed = closed;
        hands_are = is ∙ (λ i. record v {
          alone = sym (ap (λ (h : Hands R). h.alone) is) i;
          looks = looks ++ v.looks;
          woken = cond (ne_eqb (cleared found (q % 8)) 0 left i) (q / 8 ∷ v.woken) v.woken;
          pending = sym none_pending i;
        });
        lone = stays_as (KeepsBoard place (λ run. cleared (bit_or run (2 ^ waits)) waits))
            (KeepsBoard place (λ run. run)) v.alone z.alone
            (λ a b alone t.
            let its_run = t.its_run ∙ subst (λ n. cleared (bit_or n (2 ^ waits)) waits ≡ n)
            (kept_word v (run_word place) first over_v first_moment a alone)
            (next_unset v place waits first over_v first_moment near few held none_pending) in
            assumption (t, its_run)) here;
      }
