-- A swap that closes a goal's head keeps soundness.
use Rattle.std.proofs.Common.{length, ◌*◌, ◌≡◌, ℕ, ◌+◌, ◌^◌, ◌<◌, ◌≤◌, List, set}
use Rattle.std.proofs.Common.{Some, IsTrue, sym, refl, ap, subst, ◌∙◌, inr, arith, ◌/◌}
use mathlib.Core.Option.{some, none}
use lib.ListN.{get_elem?}
use Rattle.atomic_table.specs.Table.{keeps, step, Allows}
use Rattle.board_rule.specs.Meaning.{Meaning}
use Rattle.board_rule.specs.Records.{Claimed}
use Rattle.board_rule.specs.Words.{Mem, mem, put, head_word}
use Rattle.board_rule.specs.Waiters.{head_of}
use Rattle.board_rule.specs.Seats.{Each, in_hand, answered_right, finished}
use Rattle.board_rule.specs.Soundness.{HoldsGoal, IsPromised, IsStored, IsRaised, ArePending}
use Rattle.board_rule.specs.Soundness.{WaitedFor, IsSound}
use Rattle.board_rule.specs.May.{HasRight, MayClose, HasPart}
use Rattle.board_rule.specs.Plays.{Sat, TellsClose}
use Rattle.board_rule.specs.declared.hands.Hands.{Hands}
use Rattle.board_rule.proofs.Lists.{each_as, each_at, among_counts, only_one, put_here}
use Rattle.board_rule.proofs.Stores.{put_head}
use Rattle.board_rule.proofs.Frames.{awake_has, store_keeps, told_left}
use Rattle.board_rule.proofs.Truths.{shown_promise}
use Rattle.board_rule.proofs.Rights.{held_by, rights_at}
use Rattle.board_rule.proofs.Rights.{each_without}
use Rattle.board_rule.proofs.Lengths.{list_length, waiters_within}
use Rattle.board_rule.proofs.Looking.{Holds}
use Rattle.board_rule.proofs.CloseTopics.{stays_close, own_stays_close, promises_close, closed_stays}
use Rattle.board_rule.proofs.CloseTopics.{runs_alone, rights_close, waits_close, ends_close}
use Rattle.board_rule.proofs.HeadTopics.{blank_head, recorded_still, walked_still}

module _ {R : Type 0} (meaning_of : R → Meaning) (rules : R) (capacity : ℕ) where
  -- a board is sound once a seat has closed the head of a goal that it holds
  close_keeps : (words : List ℕ) (views : List (Hands R)) (id : ℕ) (v : Hands R) (place worker cost node : ℕ)
      (sound : IsSound (meaning_of rules) rules capacity words views)
      → (mine : get_elem? views id ≡ some v) → 0 < v.parts
      → MayClose (meaning_of rules) capacity v place worker cost node
      → IsSound (meaning_of rules) rules capacity (set words (head_word place) (2 ^ 63))
      (set views id (finished v place worker cost node (sound.by_kinds.waits.lists place)))
  close_keeps words views id v place worker cost node sound mine some_part may =
      let free = may.free in
      let walked = may.walked in
      let meaning : Meaning = meaning_of rules in
      let m : Mem = mem words in
      let n : Mem = record m { head = put m.head place (2 ^ 63) } in
      let k = sound.by_kinds in
      let waiters : List ℕ = k.waits.lists place in
      let w : Hands R = finished v place worker cost node waiters in
      let own = k.hands id v mine in
      let near = may.near in
      let count = sound.count in
      let has : 1 ≤ rights_at place v.rights =
      among_counts (λ (r : Claimed). r.place) v.rights (answered_right place worker cost node) may.stored in
      let stored = each_at (IsStored m.cost m.node m.who) v.rights (answered_right place worker cost node) own.stored
      may.stored in
      let raised = each_at (IsRaised m.run v.pending) v.rights (answered_right place worker cost node) own.raised
      may.stored in
      let has_right : HasRight capacity v.rights place = record { near = near; held = has } in
      let is = held_by capacity m.run m.head views id v place mine has_right k.rights in
      let settled : m.run place ≡ 256 = runs_alone m.run place (answered_right place worker cost node) refl refl is.runs
      (k.rights place near).small
      (subst (λ o. IsRaised m.run o (answered_right place worker cost node)) free raised) in
      let cell : m.cell place ≡ may.goal = own.stays.cells place may.goal may.stands may.some_goal in
      let is_goal : HoldsGoal meaning capacity m.cell place = (
        (λ none_there. may.some_goal (sym cell ∙ none_there)),
        subst (λ g. IsTrue (meaning.goal g)) (sym cell) may.is_goal,
      ) in
      let still = closed_stays meaning capacity m place in
      let closed : 2 ^ 63 ≤ n.head place = omega (arith, put_here m.head place (2 ^ 63)) in
      store_keeps meaning rules capacity words views id v w (head_word place) (2 ^ 63) n sound mine
      (put_head words place (2 ^ 63) (omega arith)) refl refl
      (record {
        cells = k.cells;
        blank = blank_head meaning capacity m place (2 ^ 63) is_goal k.blank;
        rights = rights_close capacity m.run m.head views id v place worker cost node waiters mine has_right settled
            k.rights;
        waits = waits_close meaning capacity m views id v w place k.waits mine near
            (ap (λ o. in_hand o v.walk) free ∙ walked) (ap (λ o. in_hand o w.walk) free);
        promises = promises_close meaning capacity m place
            (subst (IsPromised meaning capacity m.cell m.head) (sym cell)
            (shown_promise meaning capacity m k.promises v.looks own.stays may.goal may.promise))
            (subst (λ c. meaning.answer (m.cell place) c (m.node place)) (sym (stored.cost_is cost refl))
            (subst (λ x. meaning.answer (m.cell place) cost x) (sym (stored.node_is node refl))
            (subst (λ g. meaning.answer g cost node) (sym cell) may.answer)))
            k.promises;
        full = k.full;
        others = λ other u ne there h.
            let stays = stays_close meaning capacity m place u.looks h.stays in
            let recorded = recorded_still meaning capacity m n.head still u.done h.recorded in
            let still_walked = walked_still meaning capacity m n.head still u.walk h.walked in
            assumption (h, stays, recorded, still_walked);
        own = record {
          stays = own_stays_close meaning capacity m place (head_of waiters) v.looks own.stays;
          absence = ((λ _ word p p_near is. absurd (omega (arith, is))), own.absence);
          recorded = (
            record {
              near = near;
              closed = closed;
              cost_is = stored.cost_is cost refl;
              node_is = stored.node_is node refl;
              who_is = stored.who_is (worker + 1) refl;
              few = may.few;
            },
            recorded_still meaning capacity m n.head still v.done own.recorded,
          );
          stored = each_without (IsStored m.cost m.node m.who) place v.rights own.stored;
          ends = ends_close v place worker cost node waiters has own.ends;
          raised = each_without (IsRaised m.run v.pending) place v.rights own.raised;
          pends = subst (ArePending meaning capacity m.cell m.next w.looks w.rights) (sym free) tt;
          walked = record {
            chained = k.waits.chains place near;
            read = λ found none_read. let no : ⊥ = cc in absurd no;
            waited = each_as (λ q. meaning.child (m.cell (q / 8)) (m.cell place))
                (WaitedFor meaning capacity m.cell n.head place)
                (λ q is_child. record { near = near; closed = closed; is_child = is_child }) waiters
                (k.waits.joined place near);
          };
          awake = inr (awake_has rules capacity v some_part own.awake);
        };
      })

  pub close_allowed : (slots id : ℕ) (me : Sat R) (i place worker cost node : ℕ) → i ≡ head_word place → HasPart me.0
      → MayClose (meaning_of rules) capacity me.0 place worker cost node
      → Allows (Holds meaning_of rules capacity) slots id me i (λ _. 2 ^ 63)
      (TellsClose meaning_of (step slots i (2 ^ 63) 0 none) me)
  close_allowed slots id me i place worker cost node word_is some_part may =
      rw word_is (λ s sound homes mine fits.
      let m : Mem = mem s.words in
      let k = sound.by_kinds in
      let waiters : List ℕ = k.waits.lists place in
      let left : Hands R = finished me.0 place worker cost node waiters in
      let its_right : Claimed = answered_right place worker cost node in
      let has : HasRight capacity me.0.rights place =
      record { near = may.near; held = among_counts (λ (r : Claimed). r.place) me.0.rights its_right may.stored } in
      let is = held_by capacity m.run m.head s.views id me.0 place mine has k.rights in
      let its_capacity : capacity ≡ me.0.capacity =
      sym (awake_has rules capacity me.0 some_part (k.hands id me.0 mine).awake).2 in
      let few : rights_at place me.0.rights ≤ 1 = omega (arith, is.right_once) in
      let leaves = (told_left meaning_of rules capacity s.words s.views id me.0 (head_word place) sound mine some_part
      left me.1).hands in
      let within = waiters_within (meaning_of rules) capacity m.cell m.run m.head m.next s.views k.waits place
      may.near in
      let long = list_length (meaning_of rules) capacity m.cell m.run m.head m.next s.views k.waits place may.near in (
        left,
        keeps,
        tt,
        close_keeps s.words s.views id me.0 place worker cost node sound mine some_part may,
        λ p a c x same stored.
            let p_is : place ≡ p = omega (arith, same) in
            let r : its_right ≡ answered_right p a c x =
            only_one (λ (r : Claimed). r.place) me.0.rights its_right (answered_right p a c x) few (sym p_is) may.stored
            stored in
            let costs : Some cost ≡ Some c = ap (λ (q : Claimed). q.cost) r in
            let nodes : Some node ≡ Some x = ap (λ (q : Claimed). q.node) r in
            let workers : Some (worker + 1) ≡ Some (a + 1) = ap (λ (q : Claimed). q.who) r in
            let c_is : cost ≡ c = cc in
            let x_is : node ≡ x = cc in
            let more : worker + 1 ≡ a + 1 = cc in
            let a_is : worker ≡ a = omega arith in
            rw (← p_is, ← c_is, ← x_is, ← a_is) (record {
              hands = record {
                waiters = waiters;
                named = k.waits.heads place may.near is.is_open;
                near = subst (λ n. Each (λ q. q < 8 * n) waiters) its_capacity within;
                few = subst (λ n. length waiters ≤ 8 * n) its_capacity long;
                leaves = leaves;
              };
              slots = refl;
            }),
      ))
