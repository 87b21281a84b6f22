-- A store of 1 in the full word keeps soundness.
use Rattle.std.proofs.Common.{◌≡◌, ℕ, ◌<◌, List, set, sym, refl, ◌∙◌, inr, arith}
use mathlib.Core.Option.{some, none}
use lib.ListN.{get_elem?}
use Rattle.atomic_table.specs.Table.{keeps, step, Allows}
use Rattle.board_rule.specs.Meaning.{Meaning}
use Rattle.board_rule.specs.Words.{Mem, mem, full_word}
use Rattle.board_rule.specs.Seats.{filled}
use Rattle.board_rule.specs.Soundness.{Stays, IsFull, IsSound, IsAwake}
use Rattle.board_rule.specs.May.{MayFill, HasPart}
use Rattle.board_rule.specs.Plays.{Sat, TellsFill}
use Rattle.board_rule.specs.declared.hands.Hands.{Hands}
use Rattle.board_rule.proofs.Stores.{put_full}
use Rattle.board_rule.proofs.Frames.{awake_has, rights_stay, store_keeps}
use Rattle.board_rule.proofs.Waits.{waits_stay, pending_looked}
use Rattle.board_rule.proofs.Looking.{Holds}
use Rattle.board_rule.proofs.Truths.{stays_looked}
use Rattle.board_rule.specs.Looks.{RemembersAbsence}

-- other words seen in all cells, none of them this one, show the board full
fills : {R : Type 0} (meaning : Meaning) (capacity : ℕ) (cell head : ℕ → ℕ) (full : ℕ) (v : Hands R)
    → Stays cell head full v.looks → MayFill meaning capacity v → IsFull meaning capacity cell
fills meaning capacity cell head full v stays may = record {
  taken = λ p near. let t = may.passed p near in let e = stays.cells p t.0 t.1 t.2 in λ none. t.2 (sym e ∙ none);
  left_out = (
    may.word,
    may.enters,
    λ p near. let t = may.passed p near in let e = stays.cells p t.0 t.1 t.2 in
        λ same. t.3 (sym e ∙ same),
  );
}

-- what was seen stays where the full word is set
stays_full : (cell head : ℕ → ℕ) (full : ℕ) (looks : List (ℕ × ℕ)) → Stays cell head full looks
    → Stays cell head 1 looks
stays_full cell head full looks old =
    record { cells = old.cells; heads = old.heads; set_full = λ found at some_found none. absurd (omega arith) }

module _ {R : Type 0} (meaning_of : R → Meaning) (rules : R) (capacity : ℕ) where
  -- a board is sound once a seat that found all cells taken has set the full word
  fill_keeps : (words : List ℕ) (views : List (Hands R)) (id : ℕ) (v : Hands R)
      → IsSound (meaning_of rules) rules capacity words views → get_elem? views id ≡ some v
      → 0 < v.parts → MayFill (meaning_of rules) capacity v
      → IsSound (meaning_of rules) rules capacity (set words full_word 1) (set views id (filled v))
  fill_keeps words views id v sound mine some_part may =
      let meaning : Meaning = meaning_of rules in
      let m : Mem = mem words in
      let n : Mem = record m { full = 1 } in
      let w : Hands R = filled v in
      let k = sound.by_kinds in
      let own = k.hands id v mine in
      let count = sound.count in
      store_keeps meaning rules capacity words views id v w full_word 1 n sound mine (put_full words 1 (omega arith))
      refl refl
      (record {
        cells = k.cells;
        blank = λ p near no_goal. let b = k.blank p near no_goal in assumption b;
        rights = rights_stay capacity m.run m.head views id v w mine (λ _. refl) refl k.rights;
        waits = waits_stay meaning capacity m.cell m.head m.next m.run views id v w mine refl k.waits;
        promises = k.promises;
        full = λ _. fills meaning capacity m.cell m.head m.full v own.stays may;
        others = λ other u ne there h.
            let stays = stays_full m.cell m.head m.full u.looks h.stays in
            assumption (h, stays);
        own =
            let stays = stays_looked m.cell m.head 1 v.looks full_word 1 (λ p e. absurd (omega arith))
            (λ p e. absurd (omega arith)) (λ _ some_found. some_found)
            (stays_full m.cell m.head m.full v.looks own.stays) in
            let absence : RemembersAbsence meaning capacity w.looks = ((λ none. absurd (omega arith)), own.absence) in
            let pends = pending_looked meaning capacity m.cell m.next (full_word, 1) v.looks v.rights v.pending
            own.pends in
            let awake : IsAwake rules capacity w = inr (awake_has rules capacity v some_part own.awake) in
            assumption (own, stays, absence, pends, awake);
      })

  pub fill_allowed : (slots id : ℕ) (me : Sat R) → HasPart me.0 → MayFill (meaning_of rules) capacity me.0
      → Allows (Holds meaning_of rules capacity) slots id me full_word (λ _. 1)
      (λ _. TellsFill meaning_of (step slots full_word 1 0 none) me 1)
  fill_allowed slots id me some_part may s sound homes mine fits = (
    filled me.0,
    keeps,
    tt,
    fill_keeps s.words s.views id me.0 sound mine some_part may,
    record { hands = refl; slots = refl },
  )
