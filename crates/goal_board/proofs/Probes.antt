-- A probe of the table for a word: where it stands, and what it found so far.
use Rattle.std.proofs.Common.{◌≡◌, ℕ, ◌+◌, ◌<◌, ◌≢◌, List, [], ◌∷◌, sym, refl, ap, subst, ◌∙◌, inl, inr, arith, get_or}
use Rattle.word_table.specs.Probing.{home_of, next_place, steps_to, AllPassed}
use Rattle.word_table.proofs.Steps.{steps_to-self, steps_to-next_place, next_place_below, all_passed_none}
use Rattle.word_table.proofs.Steps.{all_passed_more, all_passed_as, all_passed_round}
use Rattle.word_table.proofs.ProbingLemmas.{home_of_below}
use Rattle.board_rule.specs.Meaning.{Meaning}
use Rattle.board_rule.specs.Words.{cell_word}
use Rattle.board_rule.specs.Looks.{Looked, SawOther, SawOthers, ShowsEntry}
use Rattle.board_rule.specs.May.{MayPut, MayFill}
use Rattle.board_rule.specs.Seats.{placed, filled}
use Rattle.board_rule.specs.declared.hands.Hands.{Hands}
use Rattle.board_rule.proofs.Truths.{shown_stands, forgets_none}
use Rattle.board_rule.specs.Words.{mem}
use Rattle.board_rule.specs.Plays.{LooksAt, PutsIn}
use Rattle.goal_board.specs.Seats.{AreHandsOver}
use Rattle.goal_board.specs.Calls.{SawAllOthers, PutsFresh, FindsAt, FindsFull, FindsNone}
use Rattle.goal_board.proofs.Overs.{SoundWith, sound_at}
use Rattle.goal_board.proofs.Seen.{SawAt, saw_at, looked_later, entry_earlier, saw_later, saw_all_later, HasSeen, sees}
use Rattle.goal_board.proofs.Seen.{seen_more, seen_none, sound_after}

-- so many steps from the word's home led here, over cells of other words
pub record Probes {R : Type 0} (meaning_of : R → Meaning) (rules : R) (capacity : ℕ) (v : Hands R)
    (word steps place : ℕ)
    (w : Hands R) : Type 0 where
  pub near : place < capacity
  pub more : List (ℕ × ℕ)
  pub saw : HasSeen v more w
  pub passed : AllPassed capacity (home_of word capacity) steps (SawOther more word)
  pub here : steps < capacity → steps_to capacity (home_of word capacity) place ≡ steps
  -- from the first look on, the board was sound with these hands
  pub last : 0 < steps → SoundWith meaning_of rules capacity w

module _ {R : Type 0} {meaning_of : R → Meaning} {rules : R} {capacity : ℕ} {v : Hands R} {word : ℕ} where
  -- the probe begins at the word's home
  pub begins : {home : ℕ} → home ≡ home_of word capacity → 0 < capacity
      → Probes meaning_of rules capacity v word 0 home v
  begins is some_capacity = record {
    near = subst (λ n. n < capacity) (sym is) (home_of_below word capacity some_capacity);
    more = [];
    saw = seen_none v;
    passed = all_passed_none capacity (home_of word capacity) (SawOther [] word);
    here = λ _. ap (steps_to capacity (home_of word capacity)) is ∙ steps_to-self capacity (home_of word capacity);
    last = λ none. absurd (omega arith);
  }

  -- it stays where it is after a look at the cell
  pub looks_here : {steps place : ℕ} {w after : Hands R} {value : ℕ}
      → Probes meaning_of rules capacity v word steps place w
      → AreHandsOver meaning_of rules capacity w → 0 < w.parts
      → LooksAt meaning_of w (cell_word place) value after → Probes meaning_of rules capacity v word steps place after
  looks_here {steps} {place} {value = value} p over some_part told = record {
    near = p.near;
    more = (cell_word place, value) ∷ p.more;
    saw = sees p.saw over told (λ e. omega (arith, e));
    passed = all_passed_as capacity (home_of word capacity) steps (SawOther p.more word)
        (SawOther ((cell_word place, value) ∷ p.more) word) (λ q _ t. (t.0, inr t.1, t.2, t.3)) p.passed;
    here = p.here;
    last = λ _. sound_after over some_part told;
  }

  -- it goes on where another word was found
  pub goes_on : {steps place next : ℕ} {w after : Hands R} {value : ℕ}
      → Probes meaning_of rules capacity v word steps place w → AreHandsOver meaning_of rules capacity w → 0 < w.parts
      → LooksAt meaning_of w (cell_word place) value after → value ≢ 0 → value ≢ word → steps < capacity
      → next ≡ next_place place capacity → Probes meaning_of rules capacity v word (steps + 1) next after
  unfolding looks_here
  goes_on {steps} {place} {value = value} old over some_part told taken apart before next_is =
      let p = looks_here old over some_part told in
      let home : ℕ = home_of word capacity in
      let near = p.near in
      let here = p.here before in
      let below : home < capacity = home_of_below word capacity (omega arith) in
      record {
        near = subst (λ n. n < capacity) (sym next_is) (next_place_below capacity place near);
        more = p.more;
        saw = p.saw;
        passed = subst (λ n. AllPassed capacity home (n + 1) (SawOther p.more word)) here
            (all_passed_more capacity home place (SawOther p.more word) below near
            (subst (λ n. AllPassed capacity home n (SawOther p.more word)) (sym here) p.passed)
            (value, inl (refl, refl), taken, apart));
        here = λ further. ap (steps_to capacity home) next_is
            ∙ steps_to-next_place capacity home place below near (omega (arith, here)) ∙ ap (λ n. n + 1) here;
        last = λ _. sound_after over some_part told;
      }

  -- the seat's looks found other words from the word's home to here
  saw_on_the_way : {steps place : ℕ} {w : Hands R} → Probes meaning_of rules capacity v word steps place w
      → steps < capacity → SawOthers capacity w.looks word (steps_to capacity (home_of word capacity) place)
  saw_on_the_way {place = place} p before =
      subst (λ (h : Hands R). SawOthers capacity h.looks word (steps_to capacity (home_of word capacity) place))
      (sym p.saw.hands_are)
      (saw_all_later capacity p.more v.looks word (steps_to capacity (home_of word capacity) place)
      (subst (λ n. SawOthers capacity p.more word n) (sym (p.here before)) p.passed))

  -- what the looks showed before the probe they show still
  shows_still : {steps place : ℕ} {w : Hands R} → Probes meaning_of rules capacity v word steps place w
      → ShowsEntry (meaning_of rules) capacity v.looks word → ShowsEntry (meaning_of rules) capacity w.looks word
  shows_still p shows =
      subst (λ (h : Hands R). ShowsEntry (meaning_of rules) capacity h.looks word) (sym p.saw.hands_are)
      (entry_earlier (meaning_of rules) capacity p.more v.looks word shows)

  -- an entry may be put where the probe stands
  pub may_put : {steps place : ℕ} {w : Hands R} → Probes meaning_of rules capacity v word steps place w
      → steps < capacity
      → (meaning_of rules).entry word → word ≢ 0
      → MayPut (meaning_of rules) capacity w place word
  may_put {place} p before enters is_word = record {
    near = p.near;
    enters = enters;
    is_word = is_word;
    passed = saw_on_the_way p before;
  }

  -- once round, every cell was found taken by another word
  pub saw_all : {steps place : ℕ} {w : Hands R} → steps ≡ capacity → 0 < capacity
      → (p : Probes meaning_of rules capacity v word steps place w) → SawAllOthers capacity p.more word
  saw_all round some_capacity p =
      all_passed_round capacity (home_of word capacity) (SawOther p.more word)
      (home_of_below word capacity some_capacity)
      (subst (λ n. AllPassed capacity (home_of word capacity) n (SawOther p.more word)) round p.passed)

  pub may_fill : {steps place : ℕ} {w : Hands R} → steps ≡ capacity → 0 < capacity
      → Probes meaning_of rules capacity v word steps place w → (meaning_of rules).entry word
      → MayFill (meaning_of rules) capacity w
  may_fill round some_capacity p enters = record {
    word = word;
    enters = enters;
    passed = λ q near. subst (λ (h : Hands R). SawOther h.looks word q) (sym p.saw.hands_are)
        (saw_later p.more v.looks word q (saw_all round some_capacity p q near));
  }

  -- the answers of an insert
  pub puts_fresh : {steps place : ℕ} {w after : Hands R} {value : ℕ}
      → Probes meaning_of rules capacity v word steps place w
      → AreHandsOver meaning_of rules capacity w
      → PutsIn meaning_of w place word value after → value ≡ 0 → PutsFresh capacity v word place after
  puts_fresh {place} {w} {value} p over told empty = record {
    near = p.near;
    more = p.more;
    looks = seen_more v w (cell_word place, 0) p.more p.saw (λ e. omega (arith, e))
        (subst (λ x. SawAt w (cell_word place, x)) empty
        (saw_at meaning_of rules capacity w (cell_word place) value over told.moment));
    hands_are = told.hit empty ∙ ap (λ h. placed h place word) p.saw.hands_are;
  }

  pub finds_at : {steps place : ℕ} {w after : Hands R} {value : ℕ}
      → Probes meaning_of rules capacity v word steps place w
      → AreHandsOver meaning_of rules capacity w
      → LooksAt meaning_of w (cell_word place) value after → value ≡ word → FindsAt capacity v word place after
  finds_at {place} {value = value} p over told same =
      let saw = sees p.saw over told (λ e. omega (arith, e)) in
      record {
        near = p.near;
        more = (cell_word place, value) ∷ p.more;
        looks = saw.looks;
        stands = inl (refl, same);
        hands_are = saw.hands_are;
      }

  pub finds_full : {steps place : ℕ} {w after : Hands R} → steps ≡ capacity → 0 < capacity
      → Probes meaning_of rules capacity v word steps place w → after ≡ filled w → FindsFull capacity v word after
  finds_full round some_capacity p is = record {
    more = p.more;
    looks = p.saw.looks;
    others = saw_all round some_capacity p;
    hands_are = is ∙ ap filled p.saw.hands_are;
  }

  -- the answers of a search that found nothing
  pub ends_at_gap : {steps place : ℕ} {w after : Hands R} {value : ℕ}
      → Probes meaning_of rules capacity v word steps place w → AreHandsOver meaning_of rules capacity w → 0 < w.parts
      → LooksAt meaning_of w (cell_word place) value after → value ≡ 0 → steps < capacity
      → FindsNone capacity v word after
  unfolding looks_here
  ends_at_gap {place = place} old over some_part told empty before =
      let p = looks_here old over some_part told in
      record {
        more = p.more;
        looks = p.saw.looks;
        nowhere = inl (record {
          gap = place;
          near = p.near;
          empty = inl (refl, empty);
          passed = subst (λ n. SawOthers capacity p.more word n) (sym (p.here before)) p.passed;
        });
        hands_are = p.saw.hands_are;
      }

  pub finds_none : {steps place : ℕ} {w : Hands R} → steps ≡ capacity → 0 < capacity
      → Probes meaning_of rules capacity v word steps place w → FindsNone capacity v word w
  finds_none round some_capacity p = record {
    more = p.more;
    looks = p.saw.looks;
    nowhere = inr (saw_all round some_capacity p);
    hands_are = p.saw.hands_are;
  }

  -- a word that the looks show is found before an empty cell
  pub not_at_gap : {steps place : ℕ} {w after : Hands R} {value : ℕ}
      → Probes meaning_of rules capacity v word steps place w
      → AreHandsOver meaning_of rules capacity w
      → LooksAt meaning_of w (cell_word place) value after → value ≡ 0 → steps < capacity
      → ShowsEntry (meaning_of rules) capacity v.looks word → ⊥
  not_at_gap {place} {w} {value} p over told empty before shows =
      let t = sound_at meaning_of rules capacity w (cell_word place) value over told.moment in
      let k = t.0.sound.by_kinds in
      let own = k.hands t.0.id w t.0.mine in
      forgets_none (meaning_of rules) capacity (mem t.0.words) k.promises w.looks own.stays k.cells (cell_word place)
      (λ q e. ap (λ i. get_or t.0.words i 0) e ∙ sym t.1 ∙ empty) word place p.near refl
      (shows_still p shows) (saw_on_the_way p before)

  -- and before all cells were passed
  pub not_once_round : {steps place : ℕ} {w : Hands R} → steps ≡ capacity → 0 < capacity
      → Probes meaning_of rules capacity v word steps place w → ShowsEntry (meaning_of rules) capacity v.looks word → ⊥
  not_once_round {w} round some_capacity p shows =
      let s = p.last (subst (λ n. 0 < n) (sym round) some_capacity) in
      let k = s.sound.by_kinds in
      let own = k.hands s.id w s.mine in
      let stands = shown_stands (meaning_of rules) capacity (mem s.words) k.promises w.looks own.stays word
      (shows_still p shows) in
      let saw = saw_all round some_capacity p stands.0 stands.1 in
      let there = own.stays.cells stands.0 saw.0
      (subst (λ (h : Hands R). Looked h.looks (cell_word stands.0) saw.0) (sym p.saw.hands_are)
      (looked_later p.more v.looks (cell_word stands.0) saw.0 saw.1)) saw.2 in
      saw.3 (sym there ∙ stands.3)
