-- A step at a goal's run word keeps soundness where what is said of run words, rights and waits holds after it.
use Rattle.std.proofs.Common.{◌≡◌, ℕ, ◌<◌, ◌≢◌, List, ◌∷◌, set}
use Rattle.std.proofs.Common.{sym, ap, subst, ◌∙◌, refl, inr, arith}
use mathlib.Core.Option.{some}
use lib.ListN.{get_elem?}
use Rattle.board_rule.specs.Meaning.{Meaning}
use Rattle.board_rule.specs.Words.{Mem, mem, put, cell_word, run_word}
use Rattle.board_rule.specs.Looks.{RemembersAbsence}
use Rattle.board_rule.specs.Seats.{Each, changed}
use Rattle.board_rule.specs.Soundness.{HoldsGoal, KeepsBlank, KeepsRights, KeepsWaits, AreHands, EndsClaims}
use Rattle.board_rule.specs.Soundness.{IsStored, IsAwake}
use Rattle.board_rule.specs.Soundness.{IsRaised, ArePending, IsWalked, IsSound}
use Rattle.board_rule.specs.declared.hands.Hands.{Hands}
use Rattle.board_rule.proofs.Lists.{put_else}
use Rattle.board_rule.proofs.Stores.{put_run}
use Rattle.board_rule.proofs.Frames.{awake_has, store_keeps}
use Rattle.board_rule.proofs.Truths.{stays_looked}

-- a look at a word that is no cell tells of no absence
pub absence_beside : (meaning : Meaning) (capacity : ℕ) (looks : List (ℕ × ℕ)) (word found : ℕ)
    → ((p : ℕ) → cell_word p ≢ word)
    → RemembersAbsence meaning capacity looks → RemembersAbsence meaning capacity ((word, found) ∷ looks)
absence_beside meaning capacity looks word found no_cell old = ((λ _ shown p _ is _ _. absurd (no_cell p is)), old)

-- the words of empty cells and of members are 0 where the goal's run word has changed
pub blank_run : (meaning : Meaning) (capacity : ℕ) (m : Mem) (place x : ℕ) → HoldsGoal meaning capacity m.cell place
    → KeepsBlank meaning capacity m
    → KeepsBlank meaning capacity (record m { run = put m.run place x })
blank_run meaning capacity m place x holds old p near no_goal =
    let b = old p near no_goal in
    let else : p ≢ place = λ e. no_goal (subst (HoldsGoal meaning capacity m.cell) (sym e) holds) in
    let run = put_else m.run place x p else ∙ b.run in
    assumption (b, run)

-- also where it was not 0
pub blank_running : (meaning : Meaning) (capacity : ℕ) (m : Mem) (place x : ℕ) → m.run place ≢ 0
    → KeepsBlank meaning capacity m
    → KeepsBlank meaning capacity (record m { run = put m.run place x })
blank_running meaning capacity m place x runs old p near no_goal =
    let b = old p near no_goal in
    let run = put_else m.run place x p (λ e. runs (ap m.run (sym e) ∙ b.run)) ∙ b.run in
    assumption (b, run)

module _ {R : Type 0} (meaning_of : R → Meaning) (rules : R) (capacity : ℕ) where
  -- the seat's hands after a step at a run word
  abbrev pub at_run : Hands R → ℕ → ℕ → ℕ → Hands R → Hands R
  at_run v place found x given = record v {
    alone = changed (run_word place) x v.alone;
    looks = (run_word place, found) ∷ v.looks;
    claims = given.claims;
    suspensions = given.suspensions;
    woken = given.woken;
    rights = given.rights;
    pending = given.pending;
    walk = given.walk;
  }

  -- what has to hold after such a step
  pub record HoldsAtRun (m : Mem) (run : ℕ → ℕ) (views : List (Hands R)) (id : ℕ) (w : Hands R) : Type 0 where
    pub blank : KeepsBlank (meaning_of rules) capacity (record m { run = run })
    pub rights : KeepsRights capacity run m.head (set views id w)
    pub waits : KeepsWaits (meaning_of rules) capacity m.cell run m.head m.next (set views id w)
    pub others : (other : ℕ) (u : Hands R) → other ≢ id → get_elem? views other ≡ some u
        → AreHands (meaning_of rules) rules capacity m u → Each (IsRaised run u.pending) u.rights
    pub stored : Each (IsStored m.cost m.node m.who) w.rights
    pub ends : EndsClaims w
    pub raised : Each (IsRaised run w.pending) w.rights
    pub pends : ArePending (meaning_of rules) capacity m.cell m.next w.looks w.rights w.pending
    pub walked : IsWalked (meaning_of rules) capacity m.cell m.head m.next w.walk

  pub run_step_keeps : (words : List ℕ) (views : List (Hands R)) (id : ℕ) (v given : Hands R) (place found x : ℕ)
      → IsSound (meaning_of rules) rules capacity words views → get_elem? views id ≡ some v → 0 < v.parts
      → place < capacity
      → HoldsAtRun (mem words) (put (mem words).run place x) views id (at_run v place found x given)
      → IsSound (meaning_of rules) rules capacity (set words (run_word place) x)
      (set views id (at_run v place found x given))
  run_step_keeps words views id v given place found x sound mine some_part near holds =
      let meaning : Meaning = meaning_of rules in
      let m : Mem = mem words in
      let n : Mem = record m { run = put m.run place x } in
      let w : Hands R = at_run v place found x given in
      let k = sound.by_kinds in
      let own = k.hands id v mine in
      let count = sound.count in
      store_keeps meaning rules capacity words views id v w (run_word place) x n sound mine
      (put_run words place x (omega arith)) refl refl
      (record {
        cells = k.cells;
        blank = holds.blank;
        rights = holds.rights;
        waits = holds.waits;
        promises = k.promises;
        full = k.full;
        others = λ other u ne there h. let raised = holds.others other u ne there h in assumption (h, raised);
        own =
            let stays = stays_looked m.cell m.head m.full v.looks (run_word place) found
            (λ p e. absurd (omega (arith, e))) (λ p e. absurd (omega (arith, e))) (λ e. absurd (omega (arith, e)))
            own.stays in
            let absence = absence_beside meaning capacity v.looks (run_word place) found (λ p e. omega (arith, e))
            own.absence in
            let awake : IsAwake rules capacity w = inr (awake_has rules capacity v some_part own.awake) in
            assumption (own, holds, stays, absence, awake);
      })
