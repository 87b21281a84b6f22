-- A compare-exchange of a run word from 0 to 256 keeps soundness.
use Rattle.std.proofs.Common.{IsTrue, cond, ne_eqb, ◌≡◌, ℕ, ◌+◌, ◌/◌, ◌<◌, ◌≢◌, List, ◌∷◌, get_or, set, eqb}
use Rattle.std.proofs.Common.{sym, refl, ap, subst, ◌∙◌, inr, arith}
use mathlib.Core.Option.{some, none}
use lib.ListN.{get_elem?}
use prog.Atomic.{either}
use Rattle.atomic_table.specs.Table.{step, Allows}
use Rattle.std.specs.Int.{bit_at}
use Rattle.std.proofs.lemmas.Nat.Bits.{bit_at-zero, bit_at-pow_other}
use Rattle.board_rule.specs.Meaning.{Meaning}
use Rattle.board_rule.specs.Words.{Mem, mem, put, run_word}
use Rattle.board_rule.specs.Seats.{waits_at, fresh_right, claimed}
use Rattle.board_rule.specs.Soundness.{HoldsGoal, KeepsRights, ArePending, IsSound}
use Rattle.board_rule.specs.Soundness.{held, ended}
use Rattle.board_rule.specs.May.{MayClaim, HasPart}
use Rattle.board_rule.specs.Plays.{Sat, TellsClaim}
use Rattle.board_rule.specs.declared.hands.Hands.{Hands}
use Rattle.board_rule.proofs.Lists.{put_here, put_else, term_le, counts_one, counts_none}
use Rattle.board_rule.proofs.Waits.{SameBits, handed_same, waits_as, raised_as, pending_as, same_bits_put, none_pending}
use Rattle.board_rule.proofs.RunWords.{blank_run, run_step_keeps}
use Rattle.board_rule.proofs.Looking.{Holds}
use Rattle.board_rule.proofs.Rights.{rights_at, held-set, ended-set, rights_moved}
use Rattle.board_rule.proofs.Putting.{tries_allowed}

-- 256 has the held bit alone
pub held_alone : (i : ℕ) → i ≢ 8 → bit_at 256 i ≡ 0
held_alone i ne = bit_at-pow_other 8 i ne

-- a ready goal that is claimed is held by one seat
rights_claimed : {R : Type 0} (capacity : ℕ) (m : Mem) (views : List (Hands R)) (id : ℕ) (v : Hands R) (place : ℕ)
    → get_elem? views id ≡ some v
    → m.run place ≡ 0 → place < capacity → KeepsRights capacity m.run m.head views
    → KeepsRights capacity (put m.run place 256) m.head (set views id (claimed v place))
rights_claimed capacity m views id v place mine ready near old =
    let w = claimed v place in
    let was = old place near in
    let one : cond {A = ℕ} (eqb place place) 1 0 ≡ 1 = counts_one place place refl in
    let was_none : held views place + ended views place ≡ 0 = sym was.running ∙ ap (λ n. bit_at n 8) ready
    ∙ bit_at-zero 8 in
    let h : held (set views id w) place ≡ 1 = omega (arith, held-set views id v w mine place, one) in
    let d : ended (set views id w) place ≡ 0 = omega (arith, ended-set views id v w mine place) in
    rights_moved views id v w mine capacity m.run m.head (put m.run place 256) m.head place
    (λ p ne. omega (arith, counts_none place p (λ e. ne (sym e)))) (λ _ _. refl)
    (λ p ne. put_else m.run place 256 p ne) (λ _ _. refl)
    (record {
      once = omega (arith, h, d);
      running = ap (λ n. bit_at n 8) (put_here m.run place 256) ∙ omega (arith, h, d);
      small = λ i high. ap (λ n. bit_at n i) (put_here m.run place 256) ∙ held_alone i (λ e. omega arith);
      closed = λ one_done. absurd (omega arith);
      run_ended = λ one_done. absurd (omega arith);
      is_open = λ _. was.is_open (omega arith);
    })
    old

-- a wait that is being put in is for another goal than one that is claimed
pends_claimed : {R : Type 0} (meaning : Meaning) (capacity : ℕ) (cell next : ℕ → ℕ) (v : Hands R) (place : ℕ)
    → rights_at place v.rights ≡ 0
    → ArePending meaning capacity cell next v.looks v.rights v.pending
    → ArePending meaning capacity cell next ((claimed v place).looks) (fresh_right place ∷ v.rights) v.pending
pends_claimed meaning capacity cell next v place none_of =
    pending_as meaning capacity cell next cell next v.looks ((run_word place, 0) ∷ v.looks) v.rights
    (fresh_right place ∷ v.rights) v.pending
    (λ x is old.
    let has = old.has.held in
    let ne : place ≢ x.waiter / 8 = λ e. let h : rights_at (x.waiter / 8) v.rights ≡ 0 =
    ap (λ p. rights_at p v.rights) (sym e) ∙ none_of in absurd (omega arith) in
    record {
      has = record { near = old.has.near; held = omega arith };
      its_wait = ap (λ b. cond b 0 (waits_at (x.waiter / 8) v.rights)) (ne_eqb place (x.waiter / 8) ne) ∙ old.its_wait;
      seen = old.seen;
      looked = λ head at. inr (old.looked head at);
    })

module _ {R : Type 0} (meaning_of : R → Meaning) (rules : R) (capacity : ℕ) where
  -- a board is sound once a seat has claimed a ready goal
  claim_keeps : (words : List ℕ) (views : List (Hands R)) (id : ℕ) (v : Hands R) (place : ℕ)
      → IsSound (meaning_of rules) rules capacity words views → get_elem? views id ≡ some v
      → 0 < v.parts → MayClaim (meaning_of rules) capacity v place → get_or words (run_word place) 0 ≡ 0
      → IsSound (meaning_of rules) rules capacity (set words (run_word place) 256) (set views id (claimed v place))
  claim_keeps words views id v place sound mine some_part may ready =
      let meaning : Meaning = meaning_of rules in
      let m : Mem = mem words in
      let run : ℕ → ℕ = put m.run place 256 in
      let w : Hands R = claimed v place in
      let k = sound.by_kinds in
      let own = k.hands id v mine in
      let near = may.near in
      let stands : m.cell place ≡ may.goal = own.stays.cells place may.goal may.stands may.some_goal in
      let holds : HoldsGoal meaning capacity m.cell place =
      subst (λ x. (x ≢ 0) × IsTrue (meaning.goal x)) (sym stands) (may.some_goal, may.is_goal) in
      let same : SameBits m.run run = same_bits_put m.run place 256
      (λ b few. held_alone b (λ e. omega arith) ∙ sym (bit_at-zero b) ∙ ap (λ x. bit_at x b) (sym ready)) in
      let own_rights = term_le (λ (u : Hands R). rights_at place u.rights) views id v mine in
      let running : bit_at (m.run place) 8 ≡ held views place + ended views place = (k.rights place near).running in
      let no_bit : bit_at (m.run place) 8 ≡ 0 = ap (λ x. bit_at x 8) ready ∙ bit_at-zero 8 in
      let none_mine : rights_at place v.rights ≡ 0 = omega (arith, own_rights, running, no_bit) in
      run_step_keeps meaning_of rules capacity words views id v w place 0 256 sound mine some_part near (record {
        blank = blank_run meaning capacity m place 256 holds k.blank;
        rights = rights_claimed capacity m views id v place mine ready near k.rights;
        waits = waits_as meaning capacity m.cell m.head m.next m.run run views (set views id w) same
            (handed_same views id v w mine refl) k.waits;
        others = λ other u ne there h. raised_as m.run run u.pending u.rights same h.raised;
        stored = (
          record { cost_is = λ x e. absurd (cc); node_is = λ x e. absurd (cc); who_is = λ x e. absurd (cc) },
          own.stored,
        );
        ends = λ p. omega (arith, own.ends p);
        raised = (
          record {
            few = omega arith;
            others = λ b _ few. ap (λ x. bit_at x b) (put_here m.run place 256) ∙ held_alone b (λ e. omega arith)
                ∙ sym (none_pending meaning capacity m.cell m.next v.looks v.rights v.pending place b few none_mine
                own.pends);
          },
          raised_as m.run run v.pending v.rights same own.raised,
        );
        pends = pends_claimed meaning capacity m.cell m.next v place none_mine own.pends;
        walked = own.walked;
      })

  pub claim_allowed : (slots id : ℕ) (me : Sat R) (i place : ℕ) → i ≡ run_word place → HasPart me.0
      → MayClaim (meaning_of rules) capacity me.0 place
      → Allows (Holds meaning_of rules capacity) slots id me i (λ n. either (eqb n 0) 256 n)
      (TellsClaim meaning_of (step slots i 0 256 none) me)
  claim_allowed slots id me i place is some_part may =
      rw is (tries_allowed meaning_of rules capacity slots id me place 256 run_word (λ p. claimed me.0 p)
      (λ p same. omega arith) some_part
      (λ words views sound mine hit. claim_keeps words views id me.0 place sound mine some_part may hit))
