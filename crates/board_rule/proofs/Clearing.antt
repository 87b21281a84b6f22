-- A fetch-and that clears the bit of a waiter keeps soundness: by the seat that walks, and by the one that puts the
-- wait in.
use Rattle.std.proofs.Common.{◌≡◌, ℕ, ◌+◌, ◌-◌, ◌/◌, ◌%◌, ◌^◌, ◌<◌, ◌≤◌, List, [], ◌∷◌, Option, None, Some}
use Rattle.std.proofs.Common.{bit_and, get_or, set, sym, refl, ap, subst, ◌∙◌, arith}
use mathlib.Core.Option.{some, none}
use lib.ListN.{get_elem?}
use Rattle.atomic_table.specs.Table.{keeps, step, Allows}
use Rattle.board_rule.specs.Meaning.{Meaning}
use Rattle.board_rule.specs.Records.{Pending, Walk}
use Rattle.board_rule.specs.Words.{Mem, mem, run_word}
use Rattle.board_rule.specs.Waiters.{rest_of, wait_bit, cleared}
use Rattle.board_rule.specs.Seats.{Each, in_hand, woken_by, changed, bit_cleared, wait_dropped}
use Rattle.board_rule.specs.Soundness.{IsRaised, ArePending, IsWalked, WaitedFor, IsSound}
use Rattle.board_rule.specs.May.{MayDrop, HasPart, MayWalk}
use Rattle.board_rule.specs.Plays.{Sat, TellsClearBit, TellsDropWait}
use Rattle.board_rule.specs.declared.hands.Hands.{Hands}
use Rattle.board_rule.proofs.Frames.{told_left}
use Rattle.board_rule.proofs.Rights.{bit_runs}
use Rattle.board_rule.proofs.Chains.{count, chain_rest}
use Rattle.board_rule.proofs.Waits.{pending_looked, hand_parts}
use Rattle.board_rule.proofs.RunWords.{blank_running, run_step_keeps}
use Rattle.board_rule.proofs.Cleared.{run_cleared, raised_cleared, raised_dropped, not_again, was_in_hand}
use Rattle.board_rule.proofs.Cleared.{waits_cleared, rights_cleared}
use Rattle.board_rule.proofs.Looking.{Holds}

-- what is left of a walk without its first waiter
walked_rest : (meaning : Meaning) (capacity : ℕ) (m : Mem) (walk : Walk)
    → IsWalked meaning capacity m.cell m.head m.next walk
    → IsWalked meaning capacity m.cell m.head m.next
    (record { child = walk.child; waiters = rest_of walk.waiters; next = None })
walked_rest meaning capacity m walk old = record {
  chained = chain_rest m.next walk.waiters old.chained;
  read = λ found is. let no : ⊥ = cc in absurd no;
  waited = rest walk.waiters old.waited;
}
  where
    rest : (l : List ℕ) → Each (WaitedFor meaning capacity m.cell m.head walk.child) l
        → Each (WaitedFor meaning capacity m.cell m.head walk.child) (rest_of l)
    rest [] all = tt
    rest (q ∷ qs) all = all.1

module _ {R : Type 0} (meaning_of : R → Meaning) (rules : R) (capacity : ℕ) where
  -- a seat after it cleared a waiter's bit
  abbrev after_clear : Hands R → ℕ → ℕ → Option Pending → Walk → Hands R
  after_clear v q found pending walk = record v {
    alone = changed (run_word (q / 8)) (cleared found (q % 8)) v.alone;
    looks = (run_word (q / 8), found) ∷ v.looks;
    woken = woken_by found q v.woken;
    pending = pending;
    walk = walk;
  }

  -- a board is sound once a seat has cleared the bit of a waiter that it had in its hands
  clear_keeps : (words : List ℕ) (views : List (Hands R)) (id : ℕ) (v : Hands R) (q : ℕ) (pending : Option Pending)
      (walk : Walk)
      → IsSound (meaning_of rules) rules capacity words views → get_elem? views id ≡ some v → 0 < v.parts
      → ((p : ℕ) → count p (in_hand v.pending v.walk) ≡ count p (q ∷ []) + count p (in_hand pending walk))
      → (1 ≤ wait_bit (mem words).run q → Each (IsRaised (run_cleared (mem words).run q) pending) v.rights)
      → ((looks : List (ℕ × ℕ)) (look : ℕ × ℕ) → looks ≡ v.looks
      → ArePending (meaning_of rules) capacity (mem words).cell (mem words).next (look ∷ looks) v.rights pending)
      → IsWalked (meaning_of rules) capacity (mem words).cell (mem words).head (mem words).next walk
      → let found = get_or words (run_word (q / 8)) 0 in
      IsSound (meaning_of rules) rules capacity (set words (run_word (q / 8)) (cleared found (q % 8)))
      (set views id (after_clear v q found pending walk))
  clear_keeps words views id v q pending walk sound mine some_part one_less raised pends walked =
      let meaning : Meaning = meaning_of rules in
      let m : Mem = mem words in
      let place : ℕ = q / 8 in
      let found : ℕ = m.run place in
      let x : ℕ = cleared found (q % 8) in
      let w : Hands R = after_clear v q found pending walk in
      let k = sound.by_kinds in
      let own = k.hands id v mine in
      let was = was_in_hand meaning capacity m views id v w q mine one_less k.waits in
      let near : place < capacity = k.waits.near q (omega (arith, was.is_set)) in
      run_step_keeps meaning_of rules capacity words views id v w place found x sound mine some_part near (record {
        blank = blank_running meaning capacity m place x (bit_runs found (q % 8) (omega (arith, was.is_set))) k.blank;
        rights = rights_cleared meaning capacity m views id v w q mine one_less k.waits refl refl k.rights;
        waits = waits_cleared meaning capacity m views id v w q mine one_less k.waits;
        others = λ other u ne there h.
            let none_of = was.in_no_other other u ne there in
            let parts = hand_parts q u.pending u.walk in
            raised_cleared m.run q u.pending u.rights (omega (arith, was.is_set)) (omega arith) h.raised;
        stored = own.stored;
        ends = own.ends;
        raised = raised (omega (arith, was.is_set));
        pends = pends v.looks (run_word place, found) refl;
        walked = walked;
      })

  -- the first waiter of a walk, and those after it
  walk_counts : (pending : Option Pending) (walk : Walk) (q : ℕ) (others : List ℕ) → walk.waiters ≡ q ∷ others → (p : ℕ)
      → count p (in_hand pending walk) ≡ count p (q ∷ []) + count p
      (in_hand pending (record { child = walk.child; waiters = rest_of walk.waiters; next = None }))
  walk_counts pending walk q others is p =
      let whole = hand_parts p pending walk in
      let left = hand_parts p pending (record { child = walk.child; waiters = rest_of walk.waiters; next = None }) in
      let first : count p walk.waiters ≡ count p (q ∷ others) = ap (count p) is in
      let rest : count p (rest_of walk.waiters) ≡ count p others = ap (λ l. count p (rest_of l)) is in
      omega arith

  -- the seat that walks clears the bit of the first waiter
  pub clear_allowed : (slots id : ℕ) (me : Sat R) (i q : ℕ) (mask : ℕ) → i ≡ run_word (q / 8)
      → mask ≡ 2 ^ 64 - 1 - 2 ^ (q % 8) → HasPart me.0 → MayWalk me.0 q
      → Allows (Holds meaning_of rules capacity) slots id me i (λ n. bit_and n mask)
      (TellsClearBit meaning_of (step slots i mask 0 none) me)
  clear_allowed slots id me i q mask is is_mask some_part may =
      rw is (λ s sound homes mine fits.
      let word : ℕ = run_word (q / 8) in
      let found : ℕ = get_or s.words word 0 in
      let v : Hands R = me.0 in
      let m : Mem = mem s.words in
      let meaning : Meaning = meaning_of rules in
      let k = sound.by_kinds in
      let own = k.hands id v mine in
      let left : Walk = record { child = v.walk.child; waiters = rest_of v.walk.waiters; next = None } in
      let less = walk_counts v.pending v.walk q may.others may.first in
      let w : Hands R = bit_cleared v q found in
      let again = not_again meaning capacity m s.views id v w q mine less k.waits in
      let parts = hand_parts q v.pending left in (
        w,
        keeps,
        tt,
        subst (λ y. IsSound meaning rules capacity (set s.words word (bit_and found y)) (set s.views id w)) (sym is_mask)
            (clear_keeps s.words s.views id v q v.pending left sound mine some_part less
            (λ is_set. raised_cleared m.run q v.pending v.rights is_set (omega arith) own.raised)
            (λ looks look same. rw same
            (pending_looked meaning capacity m.cell m.next look v.looks v.rights v.pending own.pends))
            (walked_rest meaning capacity m v.walk own.walked)),
        λ p rest first.
            let walk : (p ∷ rest) ≡ (q ∷ may.others) = sym first ∙ may.first in
            let p_is : p ≡ q = cc in
            rw p_is (told_left meaning_of rules capacity s.words s.views id v word sound mine some_part w me.1),
      ))

  -- the seat that puts a wait in clears its bit, as it saw the child finished
  pub drop_allowed : (slots id : ℕ) (me : Sat R) (i : ℕ) (x : Pending) (mask : ℕ) → i ≡ run_word (x.waiter / 8)
      → mask ≡ 2 ^ 64 - 1 - 2 ^ (x.waiter % 8) → HasPart me.0 → MayDrop me.0 x
      → Allows (Holds meaning_of rules capacity) slots id me i (λ n. bit_and n mask)
      (TellsDropWait meaning_of (step slots i mask 0 none) me)
  drop_allowed slots id me i x mask is is_mask some_part may =
      rw is (λ s sound homes mine fits.
      let word : ℕ = run_word (x.waiter / 8) in
      let found : ℕ = get_or s.words word 0 in
      let v : Hands R = me.0 in
      let m : Mem = mem s.words in
      let own = sound.by_kinds.hands id v mine in
      let w : Hands R = wait_dropped v x found in (
        w,
        keeps,
        tt,
        subst (λ y. IsSound (meaning_of rules) rules capacity (set s.words word (bit_and found y)) (set s.views id w))
            (sym is_mask)
            (clear_keeps s.words s.views id v x.waiter None v.walk sound mine some_part
            (λ p. ap (λ o. count p (in_hand o v.walk)) may.is ∙ omega arith)
            (λ is_set. raised_dropped m.run x v.rights
            (subst (λ o. Each (IsRaised m.run o) v.rights) may.is own.raised))
            (λ looks look same. tt)
            own.walked),
        λ y is_wait.
            let wait : Some y ≡ Some x = sym is_wait ∙ may.is in
            let y_is : y ≡ x = cc in
            rw y_is (told_left meaning_of rules capacity s.words s.views id v word sound mine some_part w me.1),
      ))
