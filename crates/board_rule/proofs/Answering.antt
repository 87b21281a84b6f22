-- Stores of the answer words of a goal, by the seat that holds it, keep soundness.
use Rattle.std.proofs.Common.{cond, eqb, ◌≡◌, ℕ, ◌<◌, ◌≢◌, List, map, set, refl, ap}
use Rattle.std.proofs.Common.{◌∙◌, arith, Some, ◌+◌, ◌*◌, length}
use mathlib.Core.Option.{none}
use Rattle.atomic_table.specs.Table.{keeps, step, Allows}
use Rattle.board_rule.specs.Meaning.{Meaning}
use Rattle.board_rule.specs.Records.{Claimed}
use Rattle.board_rule.specs.Words.{Mem, mem, put, cost_word, node_word, who_word}
use Rattle.board_rule.specs.Seats.{changed}
use Rattle.board_rule.specs.Soundness.{IsStored}
use Rattle.board_rule.specs.May.{HasRight, HasPart}
use Rattle.board_rule.specs.Plays.{Sat, TellsStoreCost, TellsStoreNode, TellsStoreWho, Tells}
use Rattle.board_rule.specs.declared.hands.Hands.{Hands}
use Rattle.board_rule.proofs.Lists.{put_here, put_else, cond_cases}
use Rattle.board_rule.proofs.Stores.{put_cost, put_node, put_who}
use Rattle.board_rule.proofs.Frames.{store_keeps}
use Rattle.board_rule.proofs.Looking.{Holds}
use Rattle.board_rule.proofs.AnswerWords.{Answers, answer_holds}

-- answer words that change at one place, and a change of the right to the goal there that says so
answers_by : (m : Mem) (place : ℕ) (cost node who : ℕ → ℕ) (change : Claimed → Claimed)
    → ((p : ℕ) → p ≢ place → cost p ≡ m.cost p) → ((p : ℕ) → p ≢ place → node p ≡ m.node p)
    → ((p : ℕ) → p ≢ place → who p ≡ m.who p) → ((r : Claimed) → (change r).place ≡ r.place)
    → ((r : Claimed) → (change r).waits ≡ r.waits)
    → ((r : Claimed) → r.place ≡ place → IsStored m.cost m.node m.who r → IsStored cost node who (change r))
    → Answers m place cost node who (λ r. cond (eqb r.place place) (change r) r)
answers_by m place cost node who change cost_else node_else who_else places waits here = record {
  cost_else = cost_else;
  node_else = node_else;
  who_else = who_else;
  same_place = λ r. cond_cases r.place place (change r) r (λ q. q.place ≡ r.place) (λ _. places r) (λ _. refl);
  same_waits = λ r. cond_cases r.place place (change r) r (λ q. q.waits ≡ r.waits) (λ _. waits r) (λ _. refl);
  stored = λ r old. cond_cases r.place place (change r) r (IsStored cost node who) (λ e. here r e old)
      (λ ne. record {
        cost_is = λ y is. cost_else r.place ne ∙ old.cost_is y is;
        node_is = λ y is. node_else r.place ne ∙ old.node_is y is;
        who_is = λ y is. who_else r.place ne ∙ old.who_is y is;
      });
}

-- the word that was stored at the right's place
stored_there : (f : ℕ → ℕ) (place x at : ℕ) → at ≡ place → (y : ℕ) → Some x ≡ Some y → put f place x at ≡ y
stored_there f place x at e y is = ap (put f place x) e ∙ put_here f place x ∙ cc

answers_cost : (m : Mem) (place x : ℕ) → Answers m place (put m.cost place x) m.node m.who
    (λ r. cond (eqb r.place place) (record r { cost = Some x }) r)
answers_cost m place x =
    answers_by m place (put m.cost place x) m.node m.who (λ r. record r { cost = Some x }) (put_else m.cost place x)
    (λ _ _. refl) (λ _ _. refl) (λ _. refl) (λ _. refl)
    (λ r e old. record {
      cost_is = stored_there m.cost place x r.place e;
      node_is = old.node_is;
      who_is = old.who_is;
    })

answers_node : (m : Mem) (place x : ℕ) → Answers m place m.cost (put m.node place x) m.who
    (λ r. cond (eqb r.place place) (record r { node = Some x }) r)
answers_node m place x =
    answers_by m place m.cost (put m.node place x) m.who (λ r. record r { node = Some x }) (λ _ _. refl)
    (put_else m.node place x) (λ _ _. refl) (λ _. refl) (λ _. refl)
    (λ r e old. record {
      cost_is = old.cost_is;
      node_is = stored_there m.node place x r.place e;
      who_is = old.who_is;
    })

answers_who : (m : Mem) (place x : ℕ) → Answers m place m.cost m.node (put m.who place x)
    (λ r. cond (eqb r.place place) (record r { who = Some x }) r)
answers_who m place x =
    answers_by m place m.cost m.node (put m.who place x) (λ r. record r { who = Some x }) (λ _ _. refl)
    (λ _ _. refl) (put_else m.who place x) (λ _. refl) (λ _. refl)
    (λ r e old. record {
      cost_is = old.cost_is;
      node_is = old.node_is;
      who_is = stored_there m.who place x r.place e;
    })

module _ {R : Type 0} (meaning_of : R → Meaning) (rules : R) (capacity : ℕ) where
  -- a seat that has stored an answer word
  abbrev after_store : Hands R → ℕ → ℕ → (Claimed → Claimed) → Hands R
  after_store v word x stores = record v { alone = changed word x v.alone; rights = map stores v.rights }

  -- a seat that holds a goal may store an answer word of it: in one word of the place, with a change of the right to it
  answer_allowed : (slots id : ℕ) (me : Sat R) (place x : ℕ) (word_of : ℕ → ℕ) (stores : ℕ → Claimed → Claimed)
      (answers : Mem → Mem)
      → ((p : ℕ) → word_of place ≡ word_of p → p ≡ place) → 0 < me.0.parts → HasRight capacity me.0.rights place
      → ((words : List ℕ) → length words ≡ 14 * capacity + 1 → place < capacity
      → (mem (set words (word_of place) x) ≡ record (mem words) {
        cost = (answers (mem words)).cost;
        node = (answers (mem words)).node;
        who = (answers (mem words)).who;
      })
      × Answers (mem words) place (answers (mem words)).cost (answers (mem words)).node (answers (mem words)).who
      (stores place))
      → Allows (Holds meaning_of rules capacity) slots id me (word_of place) (λ _. x)
      (λ _ after. (p : ℕ) → word_of place ≡ word_of p
      → Tells meaning_of (λ w. w ≡ after_store me.0 (word_of p) x (stores p)) me after)
  answer_allowed slots id me place x word_of stores answers one some_part has change s sound homes mine fits =
      let m : Mem = mem s.words in
      let n : Mem = answers m in
      let left : Hands R = after_store me.0 (word_of place) x (stores place) in
      let changed_words = change s.words sound.count has.near in (
        left,
        keeps,
        tt,
        store_keeps (meaning_of rules) rules capacity s.words s.views id me.0 left (word_of place) x
            (record m { cost = n.cost; node = n.node; who = n.who }) sound mine changed_words.0 refl refl
            (answer_holds (meaning_of rules) rules capacity m place n.cost n.node n.who (stores place) changed_words.1
            has.near s.views id me.0 left.alone mine some_part has sound.by_kinds),
        λ p same. rw (one p same) (record { hands = refl; slots = refl }),
      )

  pub store_cost_allowed : (slots id : ℕ) (me : Sat R) (i place x : ℕ) → i ≡ cost_word place → HasPart me.0
      → HasRight capacity me.0.rights place
      → Allows (Holds meaning_of rules capacity) slots id me i (λ _. x)
      (λ _. TellsStoreCost meaning_of (step slots i x 0 none) me x)
  store_cost_allowed slots id me i place x is some_part has =
      rw is (answer_allowed slots id me place x cost_word
      (λ p r. cond (eqb r.place p) (record r { cost = Some x }) r) (λ m. record m { cost = put m.cost place x })
      (λ p same. omega arith) some_part has
      (λ words count near. (put_cost words place x (omega arith), answers_cost (mem words) place x)))

  pub store_node_allowed : (slots id : ℕ) (me : Sat R) (i place x : ℕ) → i ≡ node_word place → HasPart me.0
      → HasRight capacity me.0.rights place
      → Allows (Holds meaning_of rules capacity) slots id me i (λ _. x)
      (λ _. TellsStoreNode meaning_of (step slots i x 0 none) me x)
  store_node_allowed slots id me i place x is some_part has =
      rw is (answer_allowed slots id me place x node_word
      (λ p r. cond (eqb r.place p) (record r { node = Some x }) r) (λ m. record m { node = put m.node place x })
      (λ p same. omega arith) some_part has
      (λ words count near. (put_node words place x (omega arith), answers_node (mem words) place x)))

  pub store_who_allowed : (slots id : ℕ) (me : Sat R) (i place x : ℕ) → i ≡ who_word place → HasPart me.0
      → HasRight capacity me.0.rights place
      → Allows (Holds meaning_of rules capacity) slots id me i (λ _. x)
      (λ _. TellsStoreWho meaning_of (step slots i x 0 none) me x)
  store_who_allowed slots id me i place x is some_part has =
      rw is (answer_allowed slots id me place x who_word
      (λ p r. cond (eqb r.place p) (record r { who = Some x }) r) (λ m. record m { who = put m.who place x })
      (λ p same. omega arith) some_part has
      (λ words count near. (put_who words place x (omega arith), answers_who (mem words) place x)))
