-- A fetch-and that clears the held bit of a run word keeps soundness.
use Rattle.std.proofs.Common.{◌≡◌, ℕ, ◌+◌, ◌<◌, List, get_or, set, sym, refl, ap, subst, ◌∙◌, ⊎_elim}
use Rattle.std.proofs.Common.{arith, bit_and}
use mathlib.Core.Option.{some, none}
use lib.ListN.{get_elem?}
use Rattle.std.proofs.lemmas.Bool.{cases_eq}
use Rattle.atomic_table.specs.Table.{keeps, step, Allows}
use Rattle.std.specs.Int.{bit_at}
use Rattle.board_rule.specs.Meaning.{Meaning}
use Rattle.board_rule.specs.Records.{Paused, Ended}
use Rattle.board_rule.specs.Words.{Mem, mem, put, run_word}
use Rattle.board_rule.specs.Waiters.{cleared}
use Rattle.board_rule.specs.Seats.{times, suspended}
use Rattle.board_rule.specs.Soundness.{KeepsRights, IsStored, IsRaised, ArePending, IsSound, held}
use Rattle.board_rule.specs.Soundness.{ended}
use Rattle.board_rule.specs.May.{HasPart, HasRight, MaySuspend}
use Rattle.board_rule.specs.Plays.{Sat, TellsSuspend}
use Rattle.board_rule.specs.declared.hands.Hands.{Hands}
use Rattle.board_rule.proofs.Lists.{put_here, put_else, counts_one, counts_none}
use Rattle.board_rule.proofs.Frames.{told_left}
use Rattle.board_rule.proofs.Chains.{cleared_same, cleared_other, cleared_none}
use Rattle.board_rule.proofs.Waits.{SameBits, handed_same, waits_as, raised_as, same_bits_put}
use Rattle.board_rule.proofs.Looking.{Holds}
use Rattle.board_rule.proofs.Rights.{bit_runs, held_by, rights_at, without_here, without_else, each_without}
use Rattle.board_rule.proofs.Rights.{held-set, ended-set, rights_moved}
use Rattle.board_rule.proofs.RunWords.{blank_running, run_step_keeps}

-- a held goal that is suspended is held by no seat
rights_suspended : {R : Type 0} (capacity : ℕ) (m : Mem) (views : List (Hands R)) (id : ℕ) (v : Hands R) (place : ℕ)
    → get_elem? views id ≡ some v
    → HasRight capacity v.rights place → KeepsRights capacity m.run m.head views
    → KeepsRights capacity (put m.run place (cleared (m.run place) 8)) m.head
    (set views id (suspended v place (m.run place)))
rights_suspended capacity m views id v place mine has old =
    let x = cleared (m.run place) 8 in
    let w = suspended v place (m.run place) in
    let was = old place has.near in
    let is = held_by capacity m.run m.head views id v place mine has old in
    let gone = without_here place v.rights has.held in
    let h : held (set views id w) place ≡ 0 =
    omega (arith, held-set views id v w mine place, is.held_once, is.right_once) in
    let d : ended (set views id w) place ≡ 0 = omega (arith, ended-set views id v w mine place, is.not_ended) in
    rights_moved views id v w mine capacity m.run m.head (put m.run place x) m.head place
    (λ p ne. without_else place p v.rights ne) (λ _ _. refl)
    (λ p ne. put_else m.run place x p ne) (λ _ _. refl)
    (record {
      once = omega (arith, h, d);
      running = ap (λ n. bit_at n 8) (put_here m.run place x) ∙ cleared_same (m.run place) 8 (omega arith)
          ∙ omega (arith, h, d);
      small = λ i high. ap (λ n. bit_at n i) (put_here m.run place x)
          ∙ cleared_none (m.run place) 8 i (was.small i high);
      closed = λ one_done. absurd (omega arith);
      run_ended = λ one_done. absurd (omega arith);
      is_open = λ _. is.is_open;
    })
    old

module _ {R : Type 0} (meaning_of : R → Meaning) (rules : R) (capacity : ℕ) where
  -- a board is sound once a seat has suspended its goal
  suspend_keeps : (words : List ℕ) (views : List (Hands R)) (id : ℕ) (v : Hands R) (place : ℕ)
      → IsSound (meaning_of rules) rules capacity words views → get_elem? views id ≡ some v
      → 0 < v.parts → MaySuspend capacity v place
      → let found = get_or words (run_word place) 0 in
      IsSound (meaning_of rules) rules capacity (set words (run_word place) (cleared found 8))
      (set views id (suspended v place found))
  suspend_keeps words views id v place sound mine some_part may =
      let has = may.has in
      let meaning : Meaning = meaning_of rules in
      let m : Mem = mem words in
      let x : ℕ = cleared (m.run place) 8 in
      let run : ℕ → ℕ = put m.run place x in
      let w : Hands R = suspended v place (m.run place) in
      let k = sound.by_kinds in
      let own = k.hands id v mine in
      let gone = without_here place v.rights has.held in
      let is = held_by capacity m.run m.head views id v place mine has k.rights in
      let same : SameBits m.run run = same_bits_put m.run place x
      (λ b few. cleared_other (m.run place) 8 b (omega arith) (omega arith) (λ e. omega arith)) in
      run_step_keeps meaning_of rules capacity words views id v w place (m.run place) x sound mine some_part has.near
      (record {
        blank = blank_running meaning capacity m place x (bit_runs (m.run place) 8 (omega (arith, is.runs))) k.blank;
        rights = rights_suspended capacity m views id v place mine has k.rights;
        waits = waits_as meaning capacity m.cell m.head m.next m.run run views (set views id w) same
            (handed_same views id v w mine refl) k.waits;
        others = λ other u ne there h. raised_as m.run run u.pending u.rights same h.raised;
        stored = each_without (IsStored m.cost m.node m.who) place v.rights own.stored;
        ends = λ p. ⊎_elim
            (λ e. subst (λ q. times (λ (c : ℕ). c) q v.claims ≡ times (λ (s : Paused). s.place) q w.suspensions
            + times (λ (e : Ended). e.place) q v.done + rights_at q w.rights) (sym e)
            (omega (arith, own.ends place, gone, counts_one place place refl)))
            (λ ne. omega (
              arith,
              own.ends p,
              without_else place p v.rights ne,
              counts_none place p (λ e. ne (sym e)),
            ))
            (cases_eq p place);
        raised = each_without (IsRaised run v.pending) place v.rights
            (raised_as m.run run v.pending v.rights same own.raised);
        pends = subst (λ o. ArePending meaning capacity m.cell m.next w.looks w.rights o) (sym may.free) tt;
        walked = own.walked;
      })

  pub suspend_allowed : (slots id : ℕ) (me : Sat R) (i place : ℕ) → i ≡ run_word place → HasPart me.0
      → MaySuspend capacity me.0 place
      → Allows (Holds meaning_of rules capacity) slots id me i (λ n. bit_and n 18446744073709551359)
      (TellsSuspend meaning_of (step slots i 18446744073709551359 0 none) me)
  suspend_allowed slots id me i place is some_part may =
      rw is (λ s sound homes mine fits.
      let left : Hands R = suspended me.0 place (get_or s.words (run_word place) 0) in (
        left,
        keeps,
        tt,
        suspend_keeps s.words s.views id me.0 place sound mine some_part may,
        λ p same.
            let p_is : p ≡ place = omega (arith, same) in
            rw p_is
            (told_left meaning_of rules capacity s.words s.views id me.0 (run_word place) sound mine some_part left
            me.1),
      ))
