-- A load keeps soundness.
use Rattle.std.proofs.Common.{inr, ◌≡◌, ℕ, ◌<◌, List, get_or, set, sym, refl, ap, subst, ◌∙◌, ◌+◌, ◌*◌}
use Rattle.std.proofs.Common.{◌∷◌, ◌++◌, Option}
use mathlib.Core.Option.{some}
use lib.ListN.{get_elem?}
use lib.Seq.{set-get_or}
use mathlib.Core.Option.{none}
use Rattle.atomic_table.specs.Table.{State, step, keeps, Allows}
use Rattle.board_rule.specs.Meaning.{Meaning}
use Rattle.board_rule.specs.Words.{mem, Mem}
use Rattle.board_rule.specs.Seats.{looked, Each, times}
use Rattle.board_rule.specs.Soundness.{AreHands, IsSound, IsRaised, ArePending, IsWalked, IsAwake}
use Rattle.board_rule.specs.Plays.{Sat, TellsLook}
use Rattle.board_rule.specs.declared.hands.Hands.{Hands}
use Rattle.board_rule.proofs.Lists.{total_same, each_as}
use Rattle.board_rule.proofs.Frames.{awake_has, of_all_set, rights_stay, alone_moved, told_left}
use Rattle.board_rule.proofs.Waits.{waits_stay, pending_looked}
use Rattle.board_rule.proofs.Truths.{look_stays, forgets_none}
use Rattle.board_rule.specs.May.{HasPart}
use Rattle.board_rule.specs.Records.{Claimed, Pending, Walk}
use Rattle.board_rule.specs.Waiters.{waiting}
use Rattle.board_rule.specs.Looks.{RemembersAbsence}

-- rights are raised as before where the waiter of the wait that is being put in is the same
pub raised_by : (run : ℕ → ℕ) (pending new_pending : Option Pending) (rights : List Claimed)
    → waiting new_pending ≡ waiting pending
    → Each (IsRaised run pending) rights → Each (IsRaised run new_pending) rights
raised_by run pending new_pending rights same =
    each_as (IsRaised run pending) (IsRaised run new_pending)
    (λ r old. record {
      few = old.few;
      others = λ b more few. old.others b more few ∙ ap (times (λ (q : ℕ). q) (8 * r.place + b)) (sym same);
    }) rights

module _ {R : Type 0} (meaning_of : R → Meaning) (rules : R) (capacity : ℕ) where
  abbrev pub Holds : State Unit (Hands R) → Type 0
  Holds s = IsSound (meaning_of rules) rules capacity s.words s.views

  -- a seat after a look, which may change what it knows of its wait and of its walk
  abbrev pub after_look : Hands R → ℕ → ℕ → Option Pending → Walk → Hands R
  after_look v word found pending walk = record v { looks = (word, found) ∷ v.looks; pending = pending; walk = walk }

  -- a board is sound after such a look
  pub wait_look_keeps : (words : List ℕ) (views : List (Hands R)) (id : ℕ) (v : Hands R) (word : ℕ)
      (pending : Option Pending) (walk : Walk)
      → IsSound (meaning_of rules) rules capacity words views → get_elem? views id ≡ some v → 0 < v.parts
      → waiting pending ≡ waiting v.pending → walk.waiters ≡ v.walk.waiters
      → ArePending (meaning_of rules) capacity (mem words).cell (mem words).next ((word, get_or words word 0) ∷ v.looks)
      v.rights pending
      → IsWalked (meaning_of rules) capacity (mem words).cell (mem words).head (mem words).next walk
      → IsSound (meaning_of rules) rules capacity words
      (set views id (after_look v word (get_or words word 0) pending walk))
  wait_look_keeps words views id v word pending walk sound mine some_part same_waiter same_walk pends walked =
      let meaning : Meaning = meaning_of rules in
      let m : Mem = mem words in
      let w : Hands R = after_look v word (get_or words word 0) pending walk in
      let k = sound.by_kinds in
      let own = k.hands id v mine in
      let rights = rights_stay capacity m.run m.head views id v w mine (λ p. refl) refl k.rights in
      let waits = waits_stay meaning capacity m.cell m.head m.next m.run views id v w mine
      (λ i. same_waiter i ++ same_walk i) k.waits in
      let stays = look_stays words word v.looks own.stays in
      let forgets = forgets_none meaning capacity m k.promises v.looks own.stays k.cells word in
      let absence : RemembersAbsence meaning capacity w.looks = (
        (λ empty. forgets (λ p e. ap (λ n. get_or words n 0) e ∙ empty)),
        own.absence,
      ) in
      let raised = raised_by m.run v.pending pending v.rights same_waiter own.raised in
      let awake : IsAwake rules capacity w = inr (awake_has rules capacity v some_part own.awake) in
      let hands = of_all_set (AreHands meaning rules capacity m) views id w k.hands
      (assumption (own, stays, absence, raised, pends, walked, awake)) in
      let parts = total_same (λ (h : Hands R). h.parts) views id v w mine refl ∙ k.parts in
      record {
        count = sound.count;
        by_kinds = assumption (k, rights, waits, hands, parts);
        alone = alone_moved words words views id v w mine (λ kept is. (kept, is, λ e. e)) sound.alone;
      }

  -- also where the seat knows no more than what it found
  pub look_keeps : (words : List ℕ) (views : List (Hands R)) (id : ℕ) (v : Hands R) (word : ℕ)
      → IsSound (meaning_of rules) rules capacity words views → get_elem? views id ≡ some v → 0 < v.parts
      → IsSound (meaning_of rules) rules capacity words (set views id (looked v word (get_or words word 0)))
  look_keeps words views id v word sound mine some_part =
      let m : Mem = mem words in
      let own = sound.by_kinds.hands id v mine in
      wait_look_keeps words views id v word v.pending v.walk sound mine some_part refl refl
      (pending_looked (meaning_of rules) capacity m.cell m.next (word, get_or words word 0) v.looks v.rights v.pending
      own.pends)
      own.walked

  -- a step that stores the value that it found leaves the words
  pub load_keeps : (words : List ℕ) (views : List (Hands R)) (word : ℕ)
      → IsSound (meaning_of rules) rules capacity words views
      → IsSound (meaning_of rules) rules capacity (set words word (get_or words word 0)) views
  load_keeps words views word =
      subst (λ (ws : List ℕ). IsSound (meaning_of rules) rules capacity ws views) (sym (set-get_or words word 0))

  pub look_allowed : (slots id : ℕ) (me : Sat R) (word : ℕ) → HasPart me.0
      → Allows Holds slots id me word (λ n. n) (TellsLook meaning_of (step slots word 0 0 none) me)
  look_allowed slots id me word some_part s sound homes mine fits =
      let left : Hands R = looked me.0 word (get_or s.words word 0) in (
        left,
        keeps,
        tt,
        load_keeps s.words (set s.views id left) word (look_keeps s.words s.views id me.0 word sound mine some_part),
        told_left meaning_of rules capacity s.words s.views id me.0 word sound mine some_part left me.1,
      )
