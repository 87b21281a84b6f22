-- A wait is being put in from its bit on, whatever head is found.
use Rattle.std.proofs.Common.{◌≡◌, ℕ, ◌+◌, ◌*◌, ◌%◌, ◌^◌, ◌<◌, ◌≤◌, [], ◌∷◌, ◌++◌, Some, sym, refl, ap, subst, ◌∙◌}
use Rattle.std.proofs.Common.{inl, ⊎_elim, arith, ◌≢◌}
use Rattle.board_rule.specs.Meaning.{Meaning}
use Rattle.board_rule.specs.Words.{run_word, head_word}
use Rattle.board_rule.specs.Waiters.{IsLater}
use Rattle.board_rule.specs.Looks.{Looked}
use Rattle.board_rule.specs.Seats.{waits_at, wait_begun, head_seen, next_stored}
use Rattle.board_rule.specs.Plays.{Moment}
use Rattle.board_rule.specs.declared.hands.Hands.{Hands}
use Rattle.goal_board.specs.Seats.{AreHandsOver, the_wait}
use Rattle.goal_board.proofs.Putting.{Begun, IsPutting, seen_wait, head_bound, head_later}
use Rattle.goal_board.proofs.Seen.{looked_later, last_looked}
use Rattle.goal_board.proofs.Registering.{kept_begun, kept_linked}

module _ {R : Type 0} (meaning_of : R → Meaning) (rules : R) (capacity : ℕ) where
  -- the bit was set, and the child's head was seen
  pub putting_begins : (v w u : Hands R) (place waits child found head : ℕ) → capacity ≤ 2 ^ 20 → place < capacity
      → child < capacity → waits < 8 → waits_at place v.rights ≡ waits
      → AreHandsOver meaning_of rules capacity v → Moment meaning_of v (run_word place) found
      → AreHandsOver meaning_of rules capacity w → Moment meaning_of w (head_word child) head
      → w ≡ wait_begun v place found → u ≡ head_seen w (the_wait w) child head
      → IsPutting capacity v (8 * place + waits) child head u
  putting_begins v w u place waits child found head small near child_near few its over moment over_w moment_w begun
      seen =
      let first : Hands R = wait_begun v place found in
      let is : u ≡ head_seen first (the_wait first) child head =
      seen ∙ ap (λ (h : Hands R). head_seen h (the_wait h) child head) begun in
      let alone = sym (ap (λ (h : Hands R). h.alone) is) in
      record {
        more = (head_word child, head) ∷ ((run_word place, found) ∷ []);
        quiet = λ value at. ⊎_elim (λ t. omega (arith, t.0)) (⊎_elim (λ t. omega (arith, t.0)) (λ t. t)) at;
        saw = inl (refl, refl);
        bound = head_bound meaning_of rules capacity w child head small child_near over_w moment_w;
        rising = λ _. omega arith;
        few = omega arith;
        hands_are = is ∙ (λ i. record v {
          alone = alone i;
          looks = (head_word child, head) ∷ ((run_word place, found) ∷ v.looks);
          pending = Some (seen_wait (8 * place + its i) child head);
        });
        kept = subst (Begun (8 * place + waits) v.alone) alone
            (kept_begun meaning_of rules capacity v place waits found over moment near few its);
      }

  -- the head that is found once the next word was stored comes later than the one that it was stored for
  pub found_later : (v w x : Hands R) (waiter child head found : ℕ) → AreHandsOver meaning_of rules capacity x
      → Moment meaning_of x (head_word child) found → IsPutting capacity v waiter child head w
      → x ≡ next_stored w (the_wait w) head → IsLater head found
  found_later v w x waiter child head found over moment old stored =
      let linked = stored ∙ ap (λ (h : Hands R). next_stored h (the_wait h) head) old.hands_are in
      head_later meaning_of rules capacity x child head found over moment
      (subst (λ (h : Hands R). Looked h.looks (head_word child) head) (sym linked)
      (looked_later old.more v.looks (head_word child) head (last_looked old.more (head_word child) head old.saw)))

  -- another head was found than the one that the next word was stored for
  pub putting_goes_on : (v w x u : Hands R) (waiter child head found : ℕ) → capacity ≤ 2 ^ 20 → child < capacity
      → head < 2 ^ 63 → found ≢ head
      → AreHandsOver meaning_of rules capacity x → Moment meaning_of x (head_word child) found
      → IsPutting capacity v waiter child head w
      → x ≡ next_stored w (the_wait w) head → u ≡ head_seen x (the_wait x) child found
      → IsPutting capacity v waiter child found u
  putting_goes_on v w x u waiter child head found small near was_open other over moment old stored missed =
      let later = found_later v w x waiter child head found over moment old stored in
      let rose = old.rising was_open in
      let bound = old.bound was_open in
      let linked = stored ∙ ap (λ (h : Hands R). next_stored h (the_wait h) head) old.hands_are in
      let is = missed ∙ ap (λ (h : Hands R). head_seen h (the_wait h) child found) linked in
      let alone = sym (ap (λ (h : Hands R). h.alone) is) in
      record {
        more = (head_word child, found) ∷ old.more;
        quiet = λ value at. ⊎_elim (λ t. omega (arith, t.0)) (λ t. old.quiet value t) at;
        saw = inl (refl, refl);
        bound = head_bound meaning_of rules capacity x child found small near over moment;
        rising = λ is_open. ⊎_elim (λ closed. absurd (omega arith))
            (⊎_elim (λ same. absurd (other same)) (λ t. let more = t.1 in omega arith)) later;
        few = omega arith;
        hands_are = is ∙ ap (λ (words : _). record v {
          alone = words;
          looks = (head_word child, found) ∷ (old.more ++ v.looks);
          pending = Some (seen_wait waiter child found);
        }) alone;
        kept = subst (Begun waiter v.alone) alone (kept_linked waiter (head % 2 ^ 24) v.alone w.alone old.kept);
      }
