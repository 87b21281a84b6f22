-- A compare-exchange of an open head to one with one waiter more keeps soundness.
use Rattle.std.proofs.Common.{◌≡◌, ℕ, ◌+◌, ◌/◌, ◌%◌, ◌^◌, ◌<◌, ◌≤◌, false, List, [], ◌∷◌, length, Option}
use Rattle.std.proofs.Common.{Some, eqb, get_or, set, sym, refl, ap, subst, ◌∙◌, inl, inr, arith}
use mathlib.Core.Option.{some, none}
use lib.ListN.{get_elem?}
use prog.Atomic.{either}
use Rattle.atomic_table.specs.Table.{keeps, step, Allows}
use Rattle.atomic_table.proofs.Lists.{exchanged}
use Rattle.board_rule.specs.Meaning.{Meaning}
use Rattle.board_rule.specs.Records.{Claimed, Pending}
use Rattle.board_rule.specs.Words.{Mem, mem, put, head_word}
use Rattle.board_rule.specs.Waiters.{first_of, head_of, pushed, IsChain, waiting}
use Rattle.board_rule.specs.Seats.{Each, in_hand, head_seen, wait_put}
use Rattle.board_rule.specs.Soundness.{ArePending, IsRaised, Stays, KeepsWaits, IsSound}
use Rattle.board_rule.specs.May.{MayPush, HasPart}
use Rattle.board_rule.specs.Plays.{Sat, TellsPutWait}
use Rattle.board_rule.specs.declared.hands.Hands.{Hands}
use Rattle.board_rule.proofs.Lists.{put_here, put_cases, total-set}
use Rattle.board_rule.proofs.Stores.{put_head}
use Rattle.board_rule.proofs.Frames.{awake_has, moment_of, store_keeps}
use Rattle.board_rule.proofs.Rights.{held_by}
use Rattle.board_rule.proofs.Chains.{count, put_list, put_list_cases, below_put_list}
use Rattle.board_rule.proofs.AnswerWords.{times_map}
use Rattle.board_rule.proofs.Waits.{pending_at}
use Rattle.board_rule.proofs.RunWords.{absence_beside}
use Rattle.board_rule.proofs.Lengths.{list_length, first_within}
use Rattle.board_rule.proofs.PushTopics.{promises_push, stays_push, rights_push, closed_still}
use Rattle.board_rule.proofs.PushTopics.{more_waits, same_place, stored_push, raised_push}
use Rattle.board_rule.proofs.Putting.{Leads}
use Rattle.board_rule.proofs.Looking.{Holds, wait_look_keeps, load_keeps}
use Rattle.board_rule.proofs.HeadTopics.{blank_head, recorded_still, walked_still}
use Rattle.board_rule.proofs.Truths.{stays_looked}

-- the number and the first waiter of a head
head_parts : (l : List ℕ) (h : ℕ) → h ≡ head_of l → first_of l < 2 ^ 24 → (h / 2 ^ 24 ≡ length l)
    × (h % 2 ^ 24 ≡ first_of l)
head_parts l h is few = (omega arith, omega arith)

-- the waiter goes from the seat's hands to the list of the child
waits_push : {R : Type 0} (meaning : Meaning) (capacity : ℕ) (m : Mem) (views : List (Hands R)) (id : ℕ) (v w : Hands R)
    (c q to : ℕ) (old : KeepsWaits meaning capacity m.cell m.run m.head m.next views)
    → get_elem? views id ≡ some v → c < capacity → m.head c < 2 ^ 63 → to < 2 ^ 63 → to ≡ head_of (q ∷ old.lists c)
    → m.next q ≡ first_of (old.lists c) → meaning.child (m.cell (q / 8)) (m.cell c)
    → ((p : ℕ) → count p (in_hand v.pending v.walk) ≡ count p (q ∷ []) + count p (in_hand w.pending w.walk))
    → KeepsWaits meaning capacity m.cell m.run (put m.head c to) m.next (set views id w)
waits_push meaning capacity m views id v w c q to old mine near was_open is_open head links is_child one_less = record {
  lists = put_list old.lists c (q ∷ old.lists c);
  none_left = λ p in_range. put_cases m.head c to p (λ x. 2 ^ 63 ≤ x → put_list old.lists c (q ∷ old.lists c) p ≡ [])
      (λ _ closed. absurd (omega arith))
      (λ ne closed. put_list_cases old.lists c (q ∷ old.lists c) p (λ l. l ≡ []) (λ e. absurd (ne e))
      (λ _. old.none_left p in_range closed));
  heads = λ p in_range. put_cases m.head c to p (λ x. x < 2 ^ 63
      → x ≡ head_of (put_list old.lists c (q ∷ old.lists c) p))
      (λ here _. put_list_cases old.lists c (q ∷ old.lists c) p (λ l. to ≡ head_of l) (λ _. head)
      (λ ne. absurd (ne here)))
      (λ ne still_open. put_list_cases old.lists c (q ∷ old.lists c) p (λ l. m.head p ≡ head_of l) (λ e. absurd (ne e))
      (λ _. old.heads p in_range still_open));
  chains = λ p in_range. put_list_cases old.lists c (q ∷ old.lists c) p (IsChain m.next)
      (λ _. (links, old.chains c near)) (λ _. old.chains p in_range);
  joined = λ p in_range. put_list_cases old.lists c (q ∷ old.lists c) p
      (Each (λ a. meaning.child (m.cell (a / 8)) (m.cell p)))
      (λ here. subst (λ k. Each (λ a. meaning.child (m.cell (a / 8)) (m.cell k)) (q ∷ old.lists c)) (sym here)
      (is_child, old.joined c near))
      (λ _. old.joined p in_range);
  once = λ p.
      let lists = below_put_list old.lists capacity c (q ∷ old.lists c) p near in
      let hands = total-set (λ (u : Hands _). count p (in_hand u.pending u.walk)) views id v w mine in
      let once = old.once p in
      let less = one_less p in
      omega arith;
  near = old.near;
}

module _ {R : Type 0} (meaning_of : R → Meaning) (rules : R) (capacity : ℕ) where
  -- a board is sound once a seat has put a waiter first into a list
  push_keeps : (words : List ℕ) (views : List (Hands R)) (id : ℕ) (v : Hands R) (x : Pending) (head : ℕ)
      → IsSound (meaning_of rules) rules capacity words views → get_elem? views id ≡ some v
      → 0 < v.parts → MayPush capacity v x head → get_or words (head_word x.child) 0 ≡ head
      → IsSound (meaning_of rules) rules capacity (set words (head_word x.child) (pushed head x.waiter))
      (set views id (wait_put v x head))
  push_keeps words views id v x head sound mine some_part may found =
      let small = may.small in
      let meaning : Meaning = meaning_of rules in
      let m : Mem = mem words in
      let c : ℕ = x.child in
      let q : ℕ = x.waiter in
      let to : ℕ = pushed head q in
      let n : Mem = record m { head = put m.head c to } in
      let w : Hands R = wait_put v x head in
      let k = sound.by_kinds in
      let own = k.hands id v mine in
      let total_count = sound.count in
      let old = pending_at meaning capacity m.cell m.next v.looks v.rights v.pending x may.is own.pends in
      let seen = old.seen head may.seen in
      let near = seen.near in
      let head_open = seen.was_open may.linked in
      let was_open : m.head c < 2 ^ 63 = subst (λ y. y < 2 ^ 63) (sym found) head_open in
      let lists : ℕ → List ℕ = k.waits.lists in
      let is_head : head ≡ head_of (lists c) = sym found ∙ k.waits.heads c near was_open in
      let long = list_length meaning capacity m.cell m.run m.head m.next views k.waits c near in
      let first = first_within meaning capacity m.cell m.run m.head m.next views k.waits c near in
      let parts = head_parts (lists c) head is_head (omega arith) in
      let its_place = old.has.near in
      let is_open : to < 2 ^ 63 = omega (arith, parts.0) in
      let counts = times_map (more_waits (q / 8)) (same_place (q / 8)) in
      let is = held_by capacity m.run m.head views id v (q / 8) mine old.has k.rights in
      let more : m.head c / 2 ^ 24 < to / 2 ^ 24 = omega (arith, ap (λ y. y / 2 ^ 24) found) in
      let less : (p : ℕ) → count p (in_hand v.pending v.walk) ≡ count p (q ∷ []) + count p (in_hand w.pending w.walk) =
      λ p. ap (λ o. count p (in_hand o v.walk)) may.is ∙ omega arith in
      let still = closed_still meaning capacity m c to was_open is_open in
      let pushed_stays : (looks : List (ℕ × ℕ)) → Stays m.cell m.head m.full looks → Stays m.cell n.head m.full looks =
      stays_push meaning capacity m c to was_open is_open more in
      store_keeps meaning rules capacity words views id v w (head_word c) to n sound mine
      (put_head words c to (omega arith)) refl refl
      (record {
        cells = k.cells;
        blank = blank_head meaning capacity m c to seen.child_goal k.blank;
        rights = rights_push meaning capacity m c to was_open is_open views id v w mine near (λ p. counts p v.rights)
            refl k.rights;
        waits = waits_push meaning capacity m views id v w c q to k.waits mine near was_open is_open
            (omega (arith, parts.0)) (seen.links may.linked ∙ parts.1) seen.is_child less;
        promises = promises_push meaning capacity m c to was_open is_open k.promises;
        full = k.full;
        others = λ other u ne there h.
            let stays = pushed_stays u.looks h.stays in
            let recorded = recorded_still meaning capacity m n.head still u.done h.recorded in
            let walked = walked_still meaning capacity m n.head still u.walk h.walked in
            assumption (h, stays, recorded, walked);
        own = record {
          stays = stays_looked m.cell n.head m.full v.looks (head_word c) head (λ p e. absurd (omega (arith, e)))
              (λ p e. let p_is : p ≡ c = omega (arith, e) in
              rw (p_is, put_here m.head c to) (inr (inr (head_open, omega (arith, ap (λ y. y / 2 ^ 24) found)))))
              (λ e. absurd (omega (arith, e))) (pushed_stays v.looks own.stays);
          absence = absence_beside meaning capacity v.looks (head_word c) head (λ p e. omega arith) own.absence;
          recorded = recorded_still meaning capacity m n.head still v.done own.recorded;
          stored = stored_push m.cost m.node m.who (q / 8) v.rights own.stored;
          ends = λ p. omega (arith, own.ends p, counts p v.rights);
          raised = raised_push m.run x v.rights (omega (arith, is.right_once)) old.its_wait
              (subst (λ o. Each (IsRaised m.run o) v.rights) may.is own.raised);
          pends = tt;
          walked = walked_still meaning capacity m n.head still v.walk own.walked;
          awake = inr (awake_has rules capacity v some_part own.awake);
        };
      })

  -- what is known of the wait where the head had changed
  pends_missed : (m : Mem) (looks : List (ℕ × ℕ)) (rights : List Claimed) (pending : Option Pending) (x : Pending)
      (head found : ℕ) → pending ≡ Some x → x.seen ≡ Some head
      → ArePending (meaning_of rules) capacity m.cell m.next looks rights pending
      → ArePending (meaning_of rules) capacity m.cell m.next ((head_word x.child, found) ∷ looks) rights
      (Some (record { waiter = x.waiter; child = x.child; seen = Some found; linked = false }))
  pends_missed m looks rights pending x head found is was_seen all =
      let old = pending_at (meaning_of rules) capacity m.cell m.next looks rights pending x is all in
      let s = old.seen head was_seen in
      record {
        has = old.has;
        its_wait = old.its_wait;
        seen = λ h at. record {
          near = s.near;
          child_goal = s.child_goal;
          is_child = s.is_child;
          was_open = λ linked. let no : ⊥ = cc in absurd no;
          links = λ linked. let no : ⊥ = cc in absurd no;
        };
        looked = λ h at. inl (refl, cc);
      }

  pub push_allowed : (slots id : ℕ) (me : Sat R) (i : ℕ) (x : Pending) (head to : ℕ) → i ≡ head_word x.child
      → to ≡ pushed head x.waiter → HasPart me.0 → MayPush capacity me.0 x head
      → Allows (Holds meaning_of rules capacity) slots id me i (λ n. either (eqb n head) to n)
      (TellsPutWait meaning_of (step slots i head to none) me)
  push_allowed slots id me i x head to is value some_part may =
      rw (is, value) (λ s sound homes mine fits.
      let word : ℕ = head_word x.child in
      let found : ℕ = get_or s.words word 0 in
      let v : Hands R = me.0 in
      let own = sound.by_kinds.hands id v mine in
      let missed : Hands R = head_seen v x x.child found in
      let moment = moment_of meaning_of rules capacity s.words s.views id v word sound mine some_part in
      exchanged found head (pushed head x.waiter) (Leads meaning_of rules capacity s word id me
      (TellsPutWait meaning_of (step slots word head (pushed head x.waiter) none) me))
      (λ hit. (
        wait_put v x head,
        keeps,
        tt,
        push_keeps s.words s.views id v x head sound mine some_part may hit,
        λ y is_wait seen.
            let wait : Some y ≡ Some x = sym is_wait ∙ may.is in
            let y_is : y ≡ x = cc in
            rw y_is (record {
              hands = record { hit = λ _. refl; miss = λ miss. absurd (miss hit); moment = moment };
              slots = refl;
            }),
      ))
      (λ miss. (
        missed,
        keeps,
        tt,
        load_keeps meaning_of rules capacity s.words (set s.views id missed) word
            (wait_look_keeps meaning_of rules capacity s.words s.views id v word missed.pending v.walk sound mine
            some_part (sym (ap waiting may.is)) refl
            (pends_missed (mem s.words) v.looks v.rights v.pending x head found may.is may.seen own.pends) own.walked),
        λ y is_wait seen.
            let wait : Some y ≡ Some x = sym is_wait ∙ may.is in
            let y_is : y ≡ x = cc in
            rw y_is (record {
              hands = record { hit = λ hit. absurd (miss hit); miss = λ _. refl; moment = moment };
              slots = refl;
            }),
      )))
