-- What holds of looks holds of these and more.
use Rattle.std.proofs.Common.{◌≡◌, ℕ, ◌<◌, ◌≢◌, List, [], ◌∷◌, ◌++◌, get_or, set, sym, ap, subst, ◌∙◌, inl, inr, ⊎_elim}
use Rattle.std.proofs.Common.{refl}
use Rattle.word_table.specs.Probing.{home_of}
use Rattle.word_table.proofs.Steps.{all_passed_as}
use Rattle.atomic_table.proofs.Lists.{set_here}
use Rattle.board_rule.specs.Meaning.{Meaning}
use Rattle.board_rule.specs.Words.{full_word, cell_word}
use Rattle.board_rule.specs.Looks.{Looked, LastFound, SawOther, SawOthers}
use Rattle.board_rule.specs.Looks.{ShowsFinished, seen_closed, child_of, ShowsEntry}
use Rattle.board_rule.specs.Looks.{seen_there, asked_by, finished}
use Rattle.board_rule.specs.Seats.{looked}
use Rattle.board_rule.specs.Plays.{Moment, LooksAt}
use Rattle.board_rule.specs.declared.hands.Hands.{Hands}
use Rattle.board_rule.proofs.Lists.{some_below}
use Rattle.board_rule.proofs.Looking.{look_keeps}
use Rattle.goal_board.specs.Seats.{AreHandsOver}
use Rattle.goal_board.specs.Calls.{seen, AgreesAlone, IsSeen}
use Rattle.goal_board.proofs.Overs.{SoundWith, sound_at}

-- the last look at a word is a look at it
pub last_looked : (looks : List (ℕ × ℕ)) (word found : ℕ) → LastFound looks word found → Looked looks word found
last_looked [] word found at = absurd at
last_looked (l ∷ looks) word found at =
    ⊎_elim (λ (e : (l.0 ≡ word) × (l.1 ≡ found)). inl e)
    (λ (t : (l.0 ≢ word) × LastFound looks word found). inr (last_looked looks word found t.1)) at

-- a look of the later ones, and of the earlier ones
pub looked_later : (more looks : List (ℕ × ℕ)) (word found : ℕ) → Looked more word found
    → Looked (more ++ looks) word found
looked_later [] looks word found at = absurd at
looked_later (l ∷ more) looks word found at =
    ⊎_elim (λ (e : (l.0 ≡ word) × (l.1 ≡ found)). inl e)
    (λ (t : Looked more word found). inr (looked_later more looks word found t)) at

pub looked_earlier : (more looks : List (ℕ × ℕ)) (word found : ℕ) → Looked looks word found
    → Looked (more ++ looks) word found
looked_earlier [] looks word found at = at
looked_earlier (l ∷ more) looks word found at = inr (looked_earlier more looks word found at)

pub finished_earlier : (meaning : Meaning) (capacity : ℕ) (more looks : List (ℕ × ℕ)) (goal : ℕ)
    → ShowsFinished meaning capacity looks goal → ShowsFinished meaning capacity (more ++ looks) goal
finished_earlier meaning capacity more looks _ (seen_closed goal p near some_goal at closed) =
    seen_closed goal p near some_goal (looked_earlier more looks _ goal at)
    (closed.0, looked_earlier more looks _ closed.0 closed.1, closed.2)
finished_earlier meaning capacity more looks _ (child_of goal child shows is) =
    child_of goal child (finished_earlier meaning capacity more looks goal shows) is

pub entry_earlier : (meaning : Meaning) (capacity : ℕ) (more looks : List (ℕ × ℕ)) (word : ℕ)
    → ShowsEntry meaning capacity looks word → ShowsEntry meaning capacity (more ++ looks) word
entry_earlier meaning capacity more looks _ (seen_there word p near some_word at) =
    seen_there word p near some_word (looked_earlier more looks _ word at)
entry_earlier meaning capacity more looks _ (asked_by goal word shows is) =
    asked_by goal word (finished_earlier meaning capacity more looks goal shows) is
entry_earlier meaning capacity more looks _ (finished goal shows) =
    finished goal (finished_earlier meaning capacity more looks goal shows)

-- other words that the later looks found
pub saw_later : (more looks : List (ℕ × ℕ)) (word place : ℕ) → SawOther more word place
    → SawOther (more ++ looks) word place
saw_later more looks word place t = (t.0, looked_later more looks _ t.0 t.1, t.2, t.3)

pub saw_all_later : (capacity : ℕ) (more looks : List (ℕ × ℕ)) (word steps : ℕ) → SawOthers capacity more word steps
    → SawOthers capacity (more ++ looks) word steps
saw_all_later capacity more looks word steps =
    all_passed_as capacity (home_of word capacity) steps (SawOther more word) (SawOther (more ++ looks) word)
    (λ p _ t. saw_later more looks word p t)

module _ {R : Type 0} (meaning_of : R → Meaning) (rules : R) (capacity : ℕ) where
  -- a look found what a seat that is alone keeps
  pub agrees_at : (v : Hands R) (word value : ℕ) → AreHandsOver meaning_of rules capacity v
      → Moment meaning_of v word value
      → AgreesAlone v ((word, value) ∷ [])
  agrees_at v word value over m =
      let t = sound_at meaning_of rules capacity v word value over m in
      λ kept is at found looks. ⊎_elim
      (λ (e : (word ≡ at) × (value ≡ found)). ap (λ ws. get_or ws at 0)
      ((t.0.sound.alone t.0.id v t.0.mine).every_word kept is) ∙ ap (λ k. get_or t.0.words k 0) (sym e.0) ∙ sym t.1
      ∙ e.1)
      (λ (no_look : ⊥). absurd no_look) looks

  -- the board is sound after a look
  pub sound_looked : (v : Hands R) (word value : ℕ) → AreHandsOver meaning_of rules capacity v
      → Moment meaning_of v word value → 0 < v.parts → SoundWith meaning_of rules capacity (looked v word value)
  sound_looked v word value over m some_part =
      let t = sound_at meaning_of rules capacity v word value over m in
      subst (λ x. SoundWith meaning_of rules capacity (looked v word x)) (sym t.1) (record {
        words = t.0.words;
        views = set t.0.views t.0.id (looked v word (get_or t.0.words word 0));
        id = t.0.id;
        sound = look_keeps meaning_of rules capacity t.0.words t.0.views t.0.id v word t.0.sound t.0.mine some_part;
        mine = set_here t.0.views t.0.id (looked v word (get_or t.0.words word 0))
            (some_below t.0.views t.0.id v t.0.mine);
      })

module _ {R : Type 0} where
  -- a look found what the seat keeps, if it is alone, and what it saw before
  pub record SawAt (w : Hands R) (look : ℕ × ℕ) : Type 0 where
    pub alone : AgreesAlone w (look ∷ [])
    pub stays : (place word : ℕ) → Looked w.looks (cell_word place) word → word ≢ 0 → look.0 ≡ cell_word place
        → look.1 ≡ word

  -- the looks of a call so far, and the hands after them
  pub record HasSeen (v : Hands R) (more : List (ℕ × ℕ)) (w : Hands R) : Type 0 where
    pub looks : IsSeen v more
    pub hands_are : w ≡ seen more v

  pub seen_none : (v : Hands R) → HasSeen v [] v
  seen_none v = record {
    looks = record {
      quiet = λ value at. at;
      alone = λ kept is word value at. absurd at;
      stays = λ place word value saw is_word at. absurd at;
    };
    hands_are = refl;
  }

  -- one look more
  pub seen_more : (v w : Hands R) (look : ℕ × ℕ) (more : List (ℕ × ℕ)) → HasSeen v more w → look.0 ≢ full_word
      → SawAt w look → IsSeen v (look ∷ more)
  seen_more v w look more old beside new = record {
    quiet = λ value at. ⊎_elim (λ (e : (look.0 ≡ full_word) × (look.1 ≡ value)). beside e.0)
        (λ (t : Looked more full_word value). old.looks.quiet value t) at;
    alone = λ kept is word value at. ⊎_elim
        (λ (e : (look.0 ≡ word) × (look.1 ≡ value)).
        new.alone kept (ap (λ (h : Hands R). h.alone) old.hands_are ∙ is) word value (inl e))
        (λ (t : Looked more word value). old.looks.alone kept is word value t) at;
    stays = λ place word value saw is_word at. ⊎_elim
        (λ (e : (look.0 ≡ cell_word place) × (look.1 ≡ value)).
        sym e.1 ∙ new.stays place word (subst (λ (h : Hands R). Looked h.looks (cell_word place) word)
        (sym old.hands_are) (looked_earlier more v.looks (cell_word place) word saw)) is_word e.0)
        (λ (t : Looked more (cell_word place) value). old.looks.stays place word value saw is_word t) at;
  }

-- a step's look, of a sound board
pub saw_at : {R : Type 0} → (meaning_of : R → Meaning) (rules : R) (capacity : ℕ) (v : Hands R) (word value : ℕ)
    → AreHandsOver meaning_of rules capacity v → Moment meaning_of v word value → SawAt v (word, value)
saw_at meaning_of rules capacity v word value over m =
    let t = sound_at meaning_of rules capacity v word value over m in record {
      alone = agrees_at meaning_of rules capacity v word value over m;
      stays = λ place found saw is_word at. t.1 ∙ ap (λ k. get_or t.0.words k 0) at
          ∙ (t.0.sound.by_kinds.hands t.0.id v t.0.mine).stays.cells place found saw is_word;
    }

module _ {R : Type 0} {meaning_of : R → Meaning} {rules : R} {capacity : ℕ} where
  -- a step at a word other than the full word looks there
  pub sees_at : {v w : Hands R} {more : List (ℕ × ℕ)} {word value : ℕ} → HasSeen v more w
      → AreHandsOver meaning_of rules capacity w → Moment meaning_of w word value → word ≢ full_word
      → IsSeen v ((word, value) ∷ more)
  sees_at {v} {w} {more} {word} {value} old over moment beside =
      seen_more v w (word, value) more old beside (saw_at meaning_of rules capacity w word value over moment)

  -- and a load does no more
  pub sees : {v w u : Hands R} {more : List (ℕ × ℕ)} {word value : ℕ} → HasSeen v more w
      → AreHandsOver meaning_of rules capacity w → LooksAt meaning_of w word value u → word ≢ full_word
      → HasSeen v ((word, value) ∷ more) u
  sees {word = word} {value} old over told beside = record {
    looks = sees_at old over told.moment beside;
    hands_are = told.hands_are ∙ ap (λ h. looked h word value) old.hands_are;
  }

  -- the board is sound after a load
  pub sound_after : {v w : Hands R} {word value : ℕ} → AreHandsOver meaning_of rules capacity v → 0 < v.parts
      → LooksAt meaning_of v word value w → SoundWith meaning_of rules capacity w
  sound_after {v} {word = word} {value} over some_part told =
      subst (SoundWith meaning_of rules capacity) (sym told.hands_are)
      (sound_looked meaning_of rules capacity v word value over told.moment some_part)
