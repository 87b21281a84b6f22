-- A compare-exchange of a cell from 0 to an entry keeps soundness.
use Rattle.std.proofs.Common.{IsTrue, ◌≡◌, ℕ, ◌^◌, ◌<◌, ◌≤◌, ◌≢◌, List, ◌∷◌, get_or, set, eqb, sym, refl}
use Rattle.std.proofs.Common.{ap, subst, ◌∙◌, inr, ⊎_elim, arith}
use mathlib.Core.Option.{some, none}
use lib.ListN.{get_elem?}
use prog.Atomic.{either}
use Rattle.std.proofs.lemmas.Bool.{cases_eq}
use Rattle.atomic_table.specs.Table.{State, Act, keeps, Valid, carried_after, stepped, step, Allows}
use Rattle.atomic_table.proofs.Lists.{exchanged}
use Rattle.word_table.specs.Probing.{home_of, steps_to}
use Rattle.word_table.proofs.ProbingLemmas.{put_keeps_set}
use Rattle.board_rule.specs.Meaning.{Meaning}
use Rattle.board_rule.specs.Words.{Mem, mem, put, cell_word}
use Rattle.board_rule.specs.Seats.{looked, placed}
use Rattle.board_rule.specs.Soundness.{AreCells, HoldsGoal, IsBlank, KeepsBlank, IsPromised, KeepsPromises, Stays}
use Rattle.board_rule.specs.Soundness.{IsAwake}
use Rattle.board_rule.specs.Soundness.{IsSound}
use Rattle.board_rule.specs.May.{MayPut, HasPart}
use Rattle.board_rule.specs.Plays.{Sat, TellsPut, Tells, Tries}
use Rattle.board_rule.specs.declared.hands.Hands.{Hands}
use Rattle.board_rule.proofs.Lists.{put_here, put_else, put_cases}
use Rattle.board_rule.proofs.Stores.{put_cell}
use Rattle.board_rule.proofs.Frames.{awake_has, rights_stay, moment_of, store_keeps}
use Rattle.board_rule.proofs.Waits.{waits_stay, pending_looked}
use Rattle.board_rule.proofs.CellWaits.{waits_put, pends_put, walked_put}
use Rattle.board_rule.proofs.Truths.{saw_passes, forgets_none, stays_looked}
use Rattle.board_rule.proofs.Looking.{Holds, look_keeps, load_keeps}
use Rattle.board_rule.specs.Looks.{Looked, RemembersAbsence}

-- what a word in an empty cell leaves of each topic
module _ (meaning : Meaning) (capacity : ℕ) (m : Mem) (place word : ℕ) (empty : m.cell place ≡ 0) where
  -- a taken cell stays as it is
  taken_stays : (p x : ℕ) → x ≢ 0 → m.cell p ≡ x → put m.cell place word p ≡ x
  taken_stays p x taken is = put_cases m.cell place word p (λ y. y ≡ x)
      (λ here. absurd (taken (sym is ∙ ap m.cell here ∙ empty))) (λ _. is)

  cells_put : {R : Type 0} → AreCells meaning capacity m.cell → (v : Hands R) → Stays m.cell m.head m.full v.looks
      → KeepsPromises meaning capacity m.cell m.head m.cost m.node
      → MayPut meaning capacity v place word → AreCells meaning capacity (put m.cell place word)
  cells_put cells v stays promises may = record {
    enter = λ p near. put_cases m.cell place word p (λ x. x ≢ 0 → meaning.entry x) (λ _ _. may.enters)
        (λ _. cells.enter p near);
    are_set = put_keeps_set capacity m.cell (put m.cell place word) word place cells.are_set may.is_word may.near empty
        (saw_passes meaning capacity m promises v.looks stays word (steps_to capacity (home_of word capacity) place)
        may.passed)
        (record { here = put_here m.cell place word; others = λ p ne. put_else m.cell place word p ne });
  }

  -- no goal stood in the cell
  was_no_goal : (p : ℕ) → (HoldsGoal meaning capacity (put m.cell place word) p → ⊥)
      → HoldsGoal meaning capacity m.cell p → ⊥
  was_no_goal p no_goal is =
      ⊎_elim (λ here. is.0 (ap m.cell here ∙ empty))
      (λ else. no_goal (subst (λ x. (x ≢ 0) × IsTrue (meaning.goal x)) (sym (put_else m.cell place word p else))
      is)) (cases_eq p place)

  blank_put : KeepsBlank meaning capacity m → KeepsBlank meaning capacity (record m { cell = put m.cell place word })
  blank_put old p near no_goal = let b = old p near (was_no_goal p no_goal) in assumption b

  promised_put : (goal : ℕ) → IsPromised meaning capacity m.cell m.head goal
      → IsPromised meaning capacity (put m.cell place word) m.head goal
  promised_put goal old = record {
    children = λ child is. let t = old.children child is in (t.0, t.1, t.2, taken_stays t.0 child t.2 t.3, t.4);
    asked = λ e is. let t = old.asked e is in (t.0, t.1, t.2, taken_stays t.0 e t.2 t.3);
  }

  promises_put : m.head place ≡ 0 → KeepsPromises meaning capacity m.cell m.head m.cost m.node
      → KeepsPromises meaning capacity (put m.cell place word) m.head m.cost m.node
  promises_put not_closed old =
      let else : (p : ℕ) → 2 ^ 63 ≤ m.head p → put m.cell place word p ≡ m.cell p =
      λ p closed. put_else m.cell place word p (λ here. let e : m.head p ≡ 0 = ap m.head here ∙ not_closed in
      absurd (omega arith)) in
      record {
        promise = λ p near closed. subst (IsPromised meaning capacity (put m.cell place word) m.head)
            (sym (else p closed))
            (promised_put (m.cell p) (old.promise p near closed));
        answer = λ p near closed. subst (λ g. meaning.answer g (m.cost p) (m.node p)) (sym (else p closed))
            (old.answer p near closed);
      }

  stays_put : (looks : List (ℕ × ℕ)) → Stays m.cell m.head m.full looks
      → Stays (put m.cell place word) m.head m.full looks
  stays_put looks old =
      let cells : (p found : ℕ) → Looked looks (cell_word p) found → found ≢ 0 → put m.cell place word p ≡ found =
      λ p found at some. taken_stays p found some (old.cells p found at some) in
      assumption (old, cells)

  -- the seat's own looks: it found the cell empty, and then the word there
  own_stays_put : (looks : List (ℕ × ℕ)) → Stays m.cell m.head m.full looks
      → Stays (put m.cell place word) m.head m.full ((cell_word place, word) ∷ ((cell_word place, 0) ∷ looks))
  own_stays_put looks old =
      stays_looked (put m.cell place word) m.head m.full ((cell_word place, 0) ∷ looks) (cell_word place) word
      (λ p e _. let here : p ≡ place = omega (arith, e) in
      ap (put m.cell place word) here ∙ put_here m.cell place word)
      (λ p e. absurd (omega (arith, e))) (λ e. absurd (omega (arith, e)))
      (stays_looked (put m.cell place word) m.head m.full looks (cell_word place) 0 (λ p e some_found.
      absurd (some_found refl)) (λ p e. absurd (omega (arith, e))) (λ e. absurd (omega (arith, e)))
      (stays_put looks old))

module _ {R : Type 0} (meaning_of : R → Meaning) (rules : R) (capacity : ℕ) where
  -- a board is sound once a seat has put a word into an empty cell
  put_keeps : (words : List ℕ) (views : List (Hands R)) (id : ℕ) (v : Hands R) (place word : ℕ)
      → IsSound (meaning_of rules) rules capacity words views → get_elem? views id ≡ some v
      → 0 < v.parts → MayPut (meaning_of rules) capacity v place word → get_or words (cell_word place) 0 ≡ 0
      → IsSound (meaning_of rules) rules capacity (set words (cell_word place) word)
      (set views id (placed v place word))
  put_keeps words views id v place word sound mine some_part may empty =
      let meaning : Meaning = meaning_of rules in
      let m : Mem = mem words in
      let n : Mem = record m { cell = put m.cell place word } in
      let w : Hands R = placed v place word in
      let k = sound.by_kinds in
      let own = k.hands id v mine in
      let near = may.near in
      let count = sound.count in
      let blank : IsBlank meaning capacity m place = k.blank place near (λ is. is.0 empty) in
      let forgets = forgets_none meaning capacity m k.promises v.looks own.stays k.cells (cell_word place)
      (λ p e. ap (λ i. get_or words i 0) e ∙ empty) in
      store_keeps meaning rules capacity words views id v w (cell_word place) word n sound mine
      (put_cell words place word (omega arith)) refl refl
      (record {
        cells = cells_put meaning capacity m place word empty k.cells v own.stays k.promises may;
        blank = blank_put meaning capacity m place word empty k.blank;
        rights = rights_stay capacity m.run m.head views id v w mine (λ p. refl) refl k.rights;
        waits = waits_stay meaning capacity n.cell m.head m.next m.run views id v w mine refl
            (waits_put meaning capacity m views place word empty k.blank k.waits);
        promises = promises_put meaning capacity m place word empty blank.head k.promises;
        full = λ set_full. absurd ((k.full set_full).taken place near empty);
        others = λ other u ne there h.
            let stays = stays_put meaning capacity m place word empty u.looks h.stays in
            let pends = pends_put meaning capacity m views place word empty k.blank k.waits other u there u.looks
            u.rights h.pends in
            let walked = walked_put meaning capacity m views place word empty k.blank k.waits other u there h.walked in
            assumption (h, stays, pends, walked);
        own =
            let stays = own_stays_put meaning capacity m place word empty v.looks own.stays in
            let absence : RemembersAbsence meaning capacity w.looks =
            ((λ e. absurd (may.is_word e)), ((λ _. forgets), own.absence)) in
            let pends = pending_looked meaning capacity n.cell m.next (cell_word place, word)
            ((cell_word place, 0) ∷ v.looks) v.rights v.pending
            (pending_looked meaning capacity n.cell m.next (cell_word place, 0) v.looks v.rights v.pending
            (pends_put meaning capacity m views place word empty k.blank k.waits id v mine v.looks v.rights
            own.pends)) in
            let walked = walked_put meaning capacity m views place word empty k.blank k.waits id v mine own.walked in
            let awake : IsAwake rules capacity w = inr (awake_has rules capacity v some_part own.awake) in
            assumption (own, stays, absence, pends, walked, awake);
      })

  -- what a step of a seat from 0 to a new value leads to
  abbrev pub Leads : State Unit (Hands R) → ℕ → ℕ → Sat R → (ℕ → Sat R → Type 0) → ℕ → Type 0
  Leads s i id me then new = (w : Hands R) × (a : Act Unit) × Valid s.homes me.1 a
      × Holds meaning_of rules capacity (stepped s i new id me.1 w a)
      × then (get_or s.words i 0) (w, carried_after me.1 a)

  -- a compare-exchange from 0 is allowed where the board is sound once it has found 0
  pub tries_allowed : (slots id : ℕ) (me : Sat R) (place x : ℕ) (word_of : ℕ → ℕ) (won : ℕ → Hands R)
      → ((p : ℕ) → word_of place ≡ word_of p → p ≡ place) → 0 < me.0.parts
      → ((words : List ℕ) (views : List (Hands R)) → IsSound (meaning_of rules) rules capacity words views
      → get_elem? views id ≡ some me.0 → get_or words (word_of place) 0 ≡ 0
      → IsSound (meaning_of rules) rules capacity (set words (word_of place) x) (set views id (won place)))
      → Allows (Holds meaning_of rules capacity) slots id me (word_of place) (λ n. either (eqb n 0) x n)
      (λ found after. (p : ℕ) → word_of place ≡ word_of p
      → Tells meaning_of (Tries meaning_of me.0 (word_of p) found (won p)) me after)
  tries_allowed slots id me place x word_of won one some_part wins s sound homes mine fits =
      let i : ℕ = word_of place in
      let found : ℕ = get_or s.words i 0 in
      let missed : Hands R = looked me.0 i found in
      let moment = moment_of meaning_of rules capacity s.words s.views id me.0 i sound mine some_part in
      exchanged found 0 x (Leads s i id me (λ y after. (p : ℕ) → i ≡ word_of p
      → Tells meaning_of (Tries meaning_of me.0 (word_of p) y (won p)) me after))
      (λ hit. (
        won place,
        keeps,
        tt,
        wins s.words s.views sound mine hit,
        λ p same. rw (one p same) (record {
          hands = record { hit = λ _. refl; miss = λ miss. absurd (miss hit); moment = moment };
          slots = refl;
        }),
      ))
      (λ miss. (
        missed,
        keeps,
        tt,
        load_keeps meaning_of rules capacity s.words (set s.views id missed) i
            (look_keeps meaning_of rules capacity s.words s.views id me.0 i sound mine some_part),
        λ p same. rw (one p same) (record {
          hands = record { hit = λ hit. absurd (miss hit); miss = λ _. refl; moment = moment };
          slots = refl;
        }),
      ))

  pub put_allowed : (slots id : ℕ) (me : Sat R) (i place word : ℕ) → i ≡ cell_word place → HasPart me.0
      → MayPut (meaning_of rules) capacity me.0 place word
      → Allows (Holds meaning_of rules capacity) slots id me i (λ n. either (eqb n 0) word n)
      (TellsPut meaning_of (step slots i 0 word none) me)
  put_allowed slots id me i place word is some_part may =
      rw is (tries_allowed slots id me place word cell_word (λ p. placed me.0 p word) (λ p same. omega arith) some_part
      (λ words views sound mine hit. put_keeps words views id me.0 place word sound mine some_part may hit))
