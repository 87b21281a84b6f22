-- A look at a child's head for a wait, and one at the first waiter's next word, keep soundness.
use Rattle.std.proofs.Common.{◌≡◌, ℕ, ◌/◌, ◌≢◌, IsTrue, false, List, ◌∷◌, Some, get_or}
use Rattle.std.proofs.Common.{set, sym, refl, ap, subst, ◌∙◌, inl, arith}
use mathlib.Core.Option.{none}
use Rattle.atomic_table.specs.Table.{keeps, step, Allows}
use Rattle.board_rule.specs.Meaning.{Meaning}
use Rattle.board_rule.specs.Records.{Pending, Walk}
use Rattle.board_rule.specs.Words.{Mem, mem, head_word, next_word}
use Rattle.board_rule.specs.Waiters.{first_of, rest_of, IsChain, waiting}
use Rattle.board_rule.specs.Seats.{head_seen, next_read}
use Rattle.board_rule.specs.Soundness.{ArePending, IsWalked, Stays}
use Rattle.board_rule.specs.May.{MaySee, HasPart, MayWalk}
use Rattle.board_rule.specs.Plays.{Sat, TellsSeeHead, TellsReadNext}
use Rattle.board_rule.specs.declared.hands.Hands.{Hands}
use Rattle.board_rule.proofs.Frames.{told_left}
use Rattle.board_rule.proofs.Waits.{pending_at, pending_looked}
use Rattle.board_rule.proofs.Looking.{Holds, wait_look_keeps, load_keeps}

module _ {R : Type 0} (meaning_of : R → Meaning) (rules : R) (capacity : ℕ) where
  -- what is known of a wait once its child's head was seen
  pub pends_seen : (m : Mem) (v : Hands R) (x : Pending) (child found : ℕ) → Stays m.cell m.head m.full v.looks
      → MaySee (meaning_of rules) capacity v x child
      → ArePending (meaning_of rules) capacity m.cell m.next v.looks v.rights v.pending
      → ArePending (meaning_of rules) capacity m.cell m.next ((head_word child, found) ∷ v.looks) v.rights
      (Some (record { waiter = x.waiter; child = child; seen = Some found; linked = false }))
  pends_seen m v x child found stays may old =
      let meaning : Meaning = meaning_of rules in
      let was = pending_at meaning capacity m.cell m.next v.looks v.rights v.pending x may.is old in
      let goal : m.cell (x.waiter / 8) ≡ may.goal = stays.cells (x.waiter / 8) may.goal may.goal_stands may.some_goal in
      let other : m.cell child ≡ may.other = stays.cells child may.other may.other_stands may.some_other in
      record {
        has = was.has;
        its_wait = was.its_wait;
        seen = λ head at. record {
          near = may.near;
          child_goal = subst (λ c. (c ≢ 0) × IsTrue (meaning.goal c)) (sym other) (may.some_other, may.is_goal);
          is_child = subst (λ g. meaning.child g (m.cell child)) (sym goal)
              (subst (meaning.child may.goal) (sym other) may.is_child);
          was_open = λ linked. let no : ⊥ = cc in absurd no;
          links = λ linked. let no : ⊥ = cc in absurd no;
        };
        looked = λ head at. inl (refl, cc);
      }

  -- a load of a child's head, by the seat that puts a wait in
  pub see_allowed : (slots id : ℕ) (me : Sat R) (i : ℕ) (x : Pending) (child : ℕ) → i ≡ head_word child → HasPart me.0
      → MaySee (meaning_of rules) capacity me.0 x child
      → Allows (Holds meaning_of rules capacity) slots id me i (λ n. n)
      (TellsSeeHead meaning_of (step slots i 0 0 none) me)
  see_allowed slots id me i x child is some_part may =
      rw is (λ s sound homes mine fits.
      let found : ℕ = get_or s.words (head_word child) 0 in
      let v : Hands R = me.0 in
      let m : Mem = mem s.words in
      let own = sound.by_kinds.hands id v mine in
      let left : Hands R = head_seen v x child found in
      let pending : Pending = record { waiter = x.waiter; child = child; seen = Some found; linked = false } in (
        left,
        keeps,
        tt,
        load_keeps meaning_of rules capacity s.words (set s.views id left) (head_word child)
            (wait_look_keeps meaning_of rules capacity s.words s.views id v (head_word child) (Some pending) v.walk
            sound mine some_part (sym (ap waiting may.is)) refl
            (pends_seen m v x child found own.stays may own.pends) own.walked),
        λ y c is_wait same.
            let wait : Some y ≡ Some x = sym is_wait ∙ may.is in
            let y_is : y ≡ x = cc in
            let c_is : c ≡ child = omega (arith, same) in
            rw (y_is, c_is)
            (told_left meaning_of rules capacity s.words s.views id v (head_word child) sound mine some_part left me.1),
      ))

  -- the next word that was read names the waiter after the first
  walked_read : (m : Mem) (walk : Walk) (waiter : ℕ) (others : List ℕ) → walk.waiters ≡ waiter ∷ others
      → IsWalked (meaning_of rules) capacity m.cell m.head m.next walk
      → IsWalked (meaning_of rules) capacity m.cell m.head m.next
      (record { child = walk.child; waiters = walk.waiters; next = Some (m.next waiter) })
  walked_read m walk waiter others is old = record {
    chained = old.chained;
    read = λ found at.
        let same : m.next waiter ≡ found = cc in
        let chain = subst (IsChain m.next) is old.chained in
        sym same ∙ chain.0 ∙ ap (λ l. first_of (rest_of l)) (sym is);
    waited = old.waited;
  }

  -- a load of the first waiter's next word, by the seat that walks
  pub read_allowed : (slots id : ℕ) (me : Sat R) (i waiter : ℕ) → i ≡ next_word waiter → HasPart me.0
      → MayWalk me.0 waiter
      → Allows (Holds meaning_of rules capacity) slots id me i (λ n. n)
      (TellsReadNext meaning_of (step slots i 0 0 none) me)
  read_allowed slots id me i waiter is some_part may =
      rw is (λ s sound homes mine fits.
      let found : ℕ = get_or s.words (next_word waiter) 0 in
      let v : Hands R = me.0 in
      let m : Mem = mem s.words in
      let own = sound.by_kinds.hands id v mine in
      let left : Hands R = next_read v waiter found in (
        left,
        keeps,
        tt,
        load_keeps meaning_of rules capacity s.words (set s.views id left) (next_word waiter)
            (wait_look_keeps meaning_of rules capacity s.words s.views id v (next_word waiter) v.pending left.walk
            sound mine some_part refl refl
            (pending_looked (meaning_of rules) capacity m.cell m.next (next_word waiter, found) v.looks v.rights
            v.pending own.pends)
            (walked_read m v.walk waiter may.others may.first own.walked)),
        λ q same.
            let q_is : q ≡ waiter = omega arith in
            rw q_is
            (told_left meaning_of rules capacity s.words s.views id v (next_word waiter) sound mine some_part left
            me.1),
      ))
