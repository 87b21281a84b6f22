-- A store of a waiter's next word, by the seat that puts its wait in, keeps soundness.
use Rattle.std.proofs.Common.{◌≡◌, ℕ, ◌+◌, ◌*◌, ◌/◌, ◌%◌, ◌^◌, ◌<◌, ◌≢◌, List, Option, Some, set, sym}
use Rattle.std.proofs.Common.{refl, ap, subst, ◌∙◌, inr, arith, true}
use mathlib.Core.Option.{some, none}
use lib.ListN.{get_elem?}
use Rattle.atomic_table.specs.Table.{keeps, step, Allows}
use Rattle.board_rule.specs.Meaning.{Meaning}
use Rattle.board_rule.specs.Records.{Claimed, Pending, Walk}
use Rattle.board_rule.specs.Words.{Mem, mem, put, next_word}
use Rattle.board_rule.specs.Waiters.{waiting}
use Rattle.board_rule.specs.Seats.{in_hand, next_stored}
use Rattle.board_rule.specs.Soundness.{KeepsBlank, ArePending, IsWalked, KeepsWaits, IsSound}
use Rattle.board_rule.specs.Soundness.{IsAwake, IsSeenHead}
use Rattle.board_rule.specs.May.{MayLink, HasPart}
use Rattle.board_rule.specs.Plays.{Sat, TellsStoreNext}
use Rattle.board_rule.specs.declared.hands.Hands.{Hands}
use Rattle.board_rule.proofs.Lists.{put_here, put_else}
use Rattle.board_rule.proofs.Stores.{put_next}
use Rattle.board_rule.proofs.Frames.{awake_has, rights_stay, store_keeps}
use Rattle.board_rule.proofs.Rights.{bit_runs}
use Rattle.board_rule.proofs.Chains.{count, chain_put}
use Rattle.board_rule.proofs.Raised.{count_one}
use Rattle.board_rule.proofs.Waits.{waits_stay, pending_as, pending_at, hand_parts, in_hand_once}
use Rattle.board_rule.proofs.Looking.{Holds, raised_by}

-- words that are 0 stay so where the next word of a waiter changes
blank_next : (meaning : Meaning) (capacity : ℕ) (m : Mem) (q x : ℕ) → m.run (q / 8) ≢ 0 → KeepsBlank meaning capacity m
    → KeepsBlank meaning capacity (record m { next = put m.next q x })
blank_next meaning capacity m q x runs old p near no_goal =
    let b = old p near no_goal in
    let next : (c : ℕ) → c < 8 → put m.next q x (8 * p + c) ≡ 0 =
    λ c few. put_else m.next q x (8 * p + c) (λ e. let at : q / 8 ≡ p = omega arith in runs (ap m.run at ∙ b.run))
    ∙ b.next c few in
    assumption (b, next)

-- the waiter of the wait that is being put in stands in the seat's hands, with those of its walk
own_hands : {R : Type 0} (v : Hands R) (x : Pending) → v.pending ≡ Some x
    → count x.waiter (in_hand v.pending v.walk) ≡ 1 + count x.waiter v.walk.waiters
own_hands v x is = ap (λ o. count x.waiter (in_hand o v.walk)) is ∙ omega (arith, count_one x.waiter x.waiter refl)

-- the next word of a waiter in no list is a link of no list
waits_next : {R : Type 0} (meaning : Meaning) (capacity : ℕ) (m : Mem) (views : List (Hands R)) (q to : ℕ)
    (waits : KeepsWaits meaning capacity m.cell m.run m.head m.next views)
    → ((c : ℕ) → c < capacity → count q (waits.lists c) ≡ 0)
    → KeepsWaits meaning capacity m.cell m.run m.head (put m.next q to) views
waits_next meaning capacity m views q to waits unlisted = record {
  lists = waits.lists;
  none_left = waits.none_left;
  heads = waits.heads;
  chains = λ c near. chain_put m.next q to (waits.lists c) (unlisted c near) (waits.chains c near);
  joined = waits.joined;
  once = waits.once;
  near = waits.near;
}

walked_next : (meaning : Meaning) (capacity : ℕ) (m : Mem) (q to : ℕ) (walk : Walk) → count q walk.waiters ≡ 0
    → IsWalked meaning capacity m.cell m.head m.next walk
    → IsWalked meaning capacity m.cell m.head (put m.next q to) walk
walked_next meaning capacity m q to walk none_of old =
    record { chained = chain_put m.next q to walk.waiters none_of old.chained; read = old.read; waited = old.waited }

-- another's wait that is being put in keeps its next word
pends_next : (meaning : Meaning) (capacity : ℕ) (m : Mem) (q to : ℕ) (looks : List (ℕ × ℕ)) (rights : List Claimed)
    (pending : Option Pending) → count q (waiting pending) ≡ 0
    → ArePending meaning capacity m.cell m.next looks rights pending
    → ArePending meaning capacity m.cell (put m.next q to) looks rights pending
pends_next meaning capacity m q to looks rights pending none_of =
    pending_as meaning capacity m.cell m.next m.cell (put m.next q to) looks looks rights rights pending
    (λ x is old.
    let ne : x.waiter ≢ q = λ e.
    let one : count q (waiting pending) ≡ 1 = ap (λ o. count q (waiting o)) is ∙ count_one q x.waiter (sym e) in
    absurd (omega arith) in
    record {
      has = old.has;
      its_wait = old.its_wait;
      seen = λ head at. let s = old.seen head at in record {
        near = s.near;
        child_goal = s.child_goal;
        is_child = s.is_child;
        was_open = s.was_open;
        links = λ linked. put_else m.next q to x.waiter ne ∙ s.links linked;
      };
      looked = old.looked;
    })

module _ {R : Type 0} (meaning_of : R → Meaning) (rules : R) (capacity : ℕ) where
  -- a board is sound once a seat has stored the next word of the waiter that it puts in
  link_keeps : (words : List ℕ) (views : List (Hands R)) (id : ℕ) (v : Hands R) (x : Pending) (head : ℕ)
      → IsSound (meaning_of rules) rules capacity words views → get_elem? views id ≡ some v
      → 0 < v.parts → MayLink v x head
      → IsSound (meaning_of rules) rules capacity (set words (next_word x.waiter) (head % 2 ^ 24))
      (set views id (next_stored v x head))
  link_keeps words views id v x head sound mine some_part may =
      let meaning : Meaning = meaning_of rules in
      let m : Mem = mem words in
      let q : ℕ = x.waiter in
      let to : ℕ = head % 2 ^ 24 in
      let n : Mem = record m { next = put m.next q to } in
      let w : Hands R = next_stored v x head in
      let k = sound.by_kinds in
      let own = k.hands id v mine in
      let total_count = sound.count in
      let old = pending_at meaning capacity m.cell m.next v.looks v.rights v.pending x may.is own.pends in
      let near = old.has.near in
      let hands = own_hands v x may.is in
      let waiter = in_hand_once meaning capacity m views id v q k.waits mine (omega (arith, hands)) in
      let unwalked : count q v.walk.waiters ≡ 0 = omega (arith, waiter.once, hands) in
      store_keeps meaning rules capacity words views id v w (next_word q) to n sound mine
      (put_next words q to (omega arith)) refl refl
      (record {
        cells = k.cells;
        blank = blank_next meaning capacity m q to (bit_runs (m.run (q / 8)) (q % 8) (omega (arith, waiter.is_set)))
            k.blank;
        rights = rights_stay capacity m.run m.head views id v w mine (λ p. refl) refl k.rights;
        waits = waits_stay meaning capacity m.cell m.head n.next m.run views id v w mine
            (ap (λ o. in_hand o v.walk) (sym may.is))
            (waits_next meaning capacity m views q to k.waits waiter.unlisted);
        promises = k.promises;
        full = k.full;
        others = λ other u ne there h.
            let none_of = waiter.in_no_other other u ne there in
            let parts = hand_parts q u.pending u.walk in
            let pends = pends_next meaning capacity m q to u.looks u.rights u.pending (omega arith) h.pends in
            let walked = walked_next meaning capacity m q to u.walk (omega arith) h.walked in
            assumption (h, pends, walked);
        own =
            let raised = raised_by m.run v.pending w.pending v.rights (sym (ap waiting may.is)) own.raised in
            let seen : (h : ℕ) → x.seen ≡ Some h → IsSeenHead meaning capacity m.cell n.next (record x {
              linked = true;
            }) h = λ h at.
            let s = old.seen h at in
            let same : head ≡ h = (let one : Some head ≡ Some h = sym may.seen ∙ at in cc) in
            record {
              near = s.near;
              child_goal = s.child_goal;
              is_child = s.is_child;
              was_open = λ _. subst (λ y. y < 2 ^ 63) same may.was_open;
              links = λ _. put_here m.next q to ∙ ap (λ y. y % 2 ^ 24) same;
            } in
            let walked = walked_next meaning capacity m q to v.walk unwalked own.walked in
            let awake : IsAwake rules capacity w = inr (awake_has rules capacity v some_part own.awake) in
            let pends : ArePending meaning capacity m.cell n.next w.looks w.rights w.pending =
            record { has = old.has; its_wait = old.its_wait; seen = seen; looked = old.looked } in
            assumption (own, raised, pends, walked, awake);
      })

  pub link_allowed : (slots id : ℕ) (me : Sat R) (i : ℕ) (x : Pending) (head to : ℕ) → i ≡ next_word x.waiter
      → to ≡ head % 2 ^ 24 → HasPart me.0 → MayLink me.0 x head
      → Allows (Holds meaning_of rules capacity) slots id me i (λ _. to)
      (λ _. TellsStoreNext meaning_of (step slots i to 0 none) me to)
  link_allowed slots id me i x head to is value some_part may =
      rw (is, value) (λ s sound homes mine fits. (
        next_stored me.0 x head,
        keeps,
        tt,
        link_keeps s.words s.views id me.0 x head sound mine some_part may,
        λ y h is_wait seen.
            let wait : Some x ≡ Some y = sym may.is ∙ is_wait in
            let x_is : x ≡ y = cc in
            let heads : Some head ≡ Some h = sym may.seen ∙ ap (λ (z : Pending). z.seen) x_is ∙ seen in
            let head_is : head ≡ h = cc in
            record { hands = λ j. next_stored me.0 (x_is j) (head_is j); slots = refl },
      ))
