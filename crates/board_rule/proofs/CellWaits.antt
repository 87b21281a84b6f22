-- What a word in an empty cell leaves of the waits.
use Rattle.std.proofs.Common.{◌≡◌, ℕ, ◌/◌, ◌≢◌, IsTrue, List, sym, refl, ap, subst, ◌∙◌, inl, arith}
use mathlib.Core.Option.{some}
use lib.ListN.{get_elem?}
use Rattle.board_rule.specs.Meaning.{Meaning}
use Rattle.board_rule.specs.Records.{Claimed}
use Rattle.board_rule.specs.Words.{Mem, put}
use Rattle.board_rule.specs.Waiters.{waiting}
use Rattle.board_rule.specs.Seats.{Among, in_hand}
use Rattle.board_rule.specs.Soundness.{KeepsBlank, ArePending, WaitedFor, IsWalked, KeepsWaits}
use Rattle.board_rule.specs.declared.hands.Hands.{Hands}
use Rattle.board_rule.proofs.Lists.{put_else}
use Rattle.board_rule.proofs.Chains.{each_with}
use Rattle.board_rule.proofs.Waits.{pending_as, among_right, waited_stands, listed_stands, handed_stands}

module _ {R : Type 0} (meaning : Meaning) (capacity : ℕ) (m : Mem) (views : List (Hands R)) (place word : ℕ)
    (empty : m.cell place ≡ 0)
    (blank : KeepsBlank meaning capacity m) (waits : KeepsWaits meaning capacity m.cell m.run m.head m.next views) where
  -- a taken cell is as it was
  taken_same : (p : ℕ) → m.cell p ≢ 0 → put m.cell place word p ≡ m.cell p
  taken_same p taken = put_else m.cell place word p (λ e. taken (ap m.cell e ∙ empty))

  child_put : (a b : ℕ) → m.cell a ≢ 0 → m.cell b ≢ 0 → meaning.child (m.cell a) (m.cell b)
      → meaning.child (put m.cell place word a) (put m.cell place word b)
  child_put a b some_a some_b is =
      subst (λ x. meaning.child x (put m.cell place word b)) (sym (taken_same a some_a))
      (subst (meaning.child (m.cell a)) (sym (taken_same b some_b)) is)

  pub waits_put : KeepsWaits meaning capacity (put m.cell place word) m.run m.head m.next views
  waits_put = record {
    lists = waits.lists;
    none_left = waits.none_left;
    heads = waits.heads;
    chains = waits.chains;
    joined = λ c near. each_with (λ q. meaning.child (m.cell (q / 8)) (m.cell c))
        (λ q. meaning.child (put m.cell place word (q / 8)) (put m.cell place word c)) (waits.lists c)
        (λ q at is. child_put (q / 8) c (listed_stands meaning capacity m views blank waits c q near at)
        (waited_stands meaning capacity m views blank waits c q near at) is)
        (waits.joined c near);
    once = waits.once;
    near = waits.near;
  }

  module _ (id : ℕ) (v : Hands R) (mine : get_elem? views id ≡ some v) where
    pub pends_put : (looks : List (ℕ × ℕ)) (rights : List Claimed)
        → ArePending meaning capacity m.cell m.next looks rights v.pending
        → ArePending meaning capacity (put m.cell place word) m.next looks rights v.pending
    pends_put looks rights =
        pending_as meaning capacity m.cell m.next (put m.cell place word) m.next looks looks rights rights v.pending
        (λ x is old. record {
          has = old.has;
          its_wait = old.its_wait;
          seen = λ head at.
              let s = old.seen head at in
              let g = s.child_goal in
              let child_goal = subst (λ c. (c ≢ 0) × IsTrue (meaning.goal c)) (sym (taken_same x.child g.0)) g in
              let is_child = child_put (x.waiter / 8) x.child
              (handed_stands meaning capacity m views blank waits id v mine x.waiter
              (subst (λ o. Among (in_hand o v.walk) x.waiter) (sym is) (inl refl))) g.0 s.is_child in
              assumption (s, child_goal, is_child);
          looked = old.looked;
        })

    pub walked_put : IsWalked meaning capacity m.cell m.head m.next v.walk
        → IsWalked meaning capacity (put m.cell place word) m.head m.next v.walk
    walked_put old =
        let waited = each_with (WaitedFor meaning capacity m.cell m.head v.walk.child)
        (WaitedFor meaning capacity (put m.cell place word) m.head v.walk.child) v.walk.waiters
        (λ q at was.
        let closed = was.closed in
        let stands : m.cell v.walk.child ≢ 0 = λ none.
        let zero_head = (blank v.walk.child was.near (λ holds. holds.0 none)).head in absurd (omega arith) in
        let is_child = child_put (q / 8) v.walk.child (handed_stands meaning capacity m views blank waits id v mine q
        (among_right (waiting v.pending) v.walk.waiters q at)) stands was.is_child in
        assumption (was, is_child))
        old.waited in
        assumption (old, waited)
