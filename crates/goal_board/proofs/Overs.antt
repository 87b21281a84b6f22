-- Hands over a board's rules stay so, and what a step's moment says of them.
use Rattle.std.proofs.Common.{◌≡◌, ℕ, ◌+◌, ◌*◌, ◌≢◌, List, ◌∷◌, length, length-set, get_or, Option, Some, sym, ap}
use Rattle.std.proofs.Common.{subst, ◌∙◌, ⊎_elim}
use mathlib.Core.Option.{some}
use lib.ListN.{get_elem?}
use Rattle.board_rule.specs.Meaning.{Meaning}
use Rattle.board_rule.specs.Words.{mem, cell_word}
use Rattle.board_rule.specs.Looks.{Looked}
use Rattle.board_rule.specs.Seats.{changed, looked, placed, joined, lasting}
use Rattle.board_rule.specs.Soundness.{IsSound}
use Rattle.board_rule.specs.Plays.{Moment}
use Rattle.board_rule.specs.declared.hands.Hands.{Hands}
use Rattle.board_rule.proofs.SeenByTwo.{looked_append, lasting_looked}
use Rattle.board_rule.proofs.Frames.{changed_from}
use Rattle.goal_board.specs.Alone.{KeepsAll}
use Rattle.goal_board.specs.Seats.{AreHandsOver}

-- a sound board over these rules, with these hands among its seats'
pub record SoundWith {R : Type 0} (meaning_of : R → Meaning) (rules : R) (capacity : ℕ) (v : Hands R) : Type 0 where
  pub words : List ℕ
  pub views : List (Hands R)
  pub id : ℕ
  pub sound : IsSound (meaning_of rules) rules capacity words views
  pub mine : get_elem? views id ≡ some v

-- as many words are kept once one has changed
pub all_changed : (capacity word x : ℕ) (o : Option (List ℕ))
    → ((kept : List ℕ) → o ≡ Some kept → length kept ≡ 14 * capacity + 1) → (kept : List ℕ)
    → changed word x o ≡ Some kept
    → length kept ≡ 14 * capacity + 1
all_changed capacity word x o all kept is = let t = changed_from word x o kept is in ap (length {A = ℕ}) (sym t.2)
    ∙ length-set t.0 word x ∙ all t.0 t.1

module _ {R : Type 0} (meaning_of : R → Meaning) (rules : R) (capacity : ℕ) where
  -- the board at a step
  pub sound_at : (v : Hands R) (word value : ℕ) → AreHandsOver meaning_of rules capacity v
      → Moment meaning_of v word value
      → (s : SoundWith meaning_of rules capacity v) × (value ≡ get_or s.words word 0)
  sound_at v word value over m =
      let its : Some m.rules ≡ Some rules = sym m.its_rules ∙ over.its_rules in
      let same : m.rules ≡ rules = cc in (
        record {
          words = m.words;
          views = m.views;
          id = m.id;
          sound = subst (λ n. IsSound (meaning_of rules) rules n m.words m.views) over.its_capacity
              (subst (λ r. IsSound (meaning_of r) r v.capacity m.words m.views) same m.sound);
          mine = m.mine;
        },
        m.value,
      )

  -- a look keeps hands over the rules
  pub over_looked : (v : Hands R) (word value : ℕ) → AreHandsOver meaning_of rules capacity v
      → Moment meaning_of v word value → AreHandsOver meaning_of rules capacity (looked v word value)
  over_looked v word value over m = let t = sound_at v word value over m in record {
    its_rules = over.its_rules;
    its_capacity = over.its_capacity;
    entries = λ place found near at is_word. ⊎_elim
        (λ (e : (word ≡ cell_word place) × (value ≡ found)).
        let there : (mem t.0.words).cell place ≡ found = ap (λ k. get_or t.0.words k 0) (sym e.0) ∙ sym t.1 ∙ e.1 in
        subst (meaning_of rules).entry there (t.0.sound.by_kinds.cells.enter place near
        (λ none. is_word (sym there ∙ none))))
        (λ (old : Looked v.looks (cell_word place) found). over.entries place found near old is_word) at;
    all = over.all;
  }

  -- so do hands whose looks at cells found entries
  pub over_placed : (v : Hands R) (place word : ℕ) → AreHandsOver meaning_of rules capacity v
      → (meaning_of rules).entry word → AreHandsOver meaning_of rules capacity (placed v place word)
  over_placed v place word over enters = record {
    its_rules = over.its_rules;
    its_capacity = over.its_capacity;
    entries = λ p found near at is_word. ⊎_elim
        (λ (e : (cell_word place ≡ cell_word p) × (word ≡ found)). subst (meaning_of rules).entry e.1 enters)
        (⊎_elim
        (λ (e : (cell_word place ≡ cell_word p) × (0 ≡ found)). absurd (is_word (sym e.1)))
        (λ (old : Looked v.looks (cell_word p) found). over.entries p found near old is_word)) at;
    all = all_changed capacity (cell_word place) word v.alone over.all;
  }

  -- and hands whose only new look is at no cell
  pub over_beside : (v w : Hands R) (word value : ℕ) → w.rules ≡ v.rules → w.capacity ≡ v.capacity
      → w.looks ≡ (word, value) ∷ v.looks → ((p : ℕ) → word ≢ cell_word p)
      → KeepsAll capacity w → AreHandsOver meaning_of rules capacity v → AreHandsOver meaning_of rules capacity w
  over_beside v w word value rules_same capacity_same looks apart all over = record {
    its_rules = rules_same ∙ over.its_rules;
    its_capacity = capacity_same ∙ over.its_capacity;
    entries = λ p found near at is_word. ⊎_elim
        (λ (e : (word ≡ cell_word p) × (value ≡ found)). absurd (apart p e.0))
        (λ (old : Looked v.looks (cell_word p) found). over.entries p found near old is_word)
        (subst (λ ls. Looked ls (cell_word p) found) looks at);
    all = all;
  }

  -- and hands with the same looks
  pub over_same : (v w : Hands R) → w.rules ≡ v.rules → w.capacity ≡ v.capacity → w.looks ≡ v.looks
      → KeepsAll capacity w
      → AreHandsOver meaning_of rules capacity v → AreHandsOver meaning_of rules capacity w
  over_same v w rules_same capacity_same looks all over = record {
    its_rules = rules_same ∙ over.its_rules;
    its_capacity = capacity_same ∙ over.its_capacity;
    entries = λ p found near at is_word. over.entries p found near
        (subst (λ ls. Looked ls (cell_word p) found) looks at) is_word;
    all = all;
  }

  -- and hands that took in others
  pub over_joined : (v other : Hands R) → AreHandsOver meaning_of rules capacity v
      → AreHandsOver meaning_of rules capacity other → AreHandsOver meaning_of rules capacity (joined v other)
  over_joined v other over theirs = record {
    its_rules = over.its_rules;
    its_capacity = over.its_capacity;
    entries = λ p found near at is_word. ⊎_elim
        (λ t. theirs.entries p found near (lasting_looked other.looks (cell_word p) found t) is_word)
        (λ t. over.entries p found near t is_word)
        (looked_append (lasting other.looks) v.looks (cell_word p) found at);
    all = over.all;
  }
