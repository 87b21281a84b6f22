-- What the looks of a call at one place tell.
use Rattle.std.proofs.Common.{◌≡◌, ℕ, ◌<◌, ◌≢◌, ◌⊎◌, true, false, not, eqb, ne_eqb, IsTrue, []}
use Rattle.std.proofs.Common.{◌∷◌, Option, Some, sym, refl, ap, subst, ◌∙◌, inl, inr, ⊎_elim}
use Rattle.std.proofs.Common.{arith}
use Rattle.std.proofs.lemmas.Bool.{cases_eq}
use Rattle.board_rule.specs.Meaning.{Meaning}
use Rattle.board_rule.specs.Words.{cell_word, run_word, mem}
use Rattle.board_rule.specs.Looks.{Looked}
use Rattle.board_rule.specs.Seats.{looked, claimed, Each}
use Rattle.board_rule.specs.Plays.{Moment, LooksAt, Tries, SuspendsAt}
use Rattle.board_rule.specs.declared.hands.Hands.{Hands}
use Rattle.goal_board.specs.Seats.{AreHandsOver}
use Rattle.goal_board.specs.Calls.{IsSeen, found_word, ReadsCell}
use Rattle.goal_board.specs.RightCalls.{IsRightOf, ClaimsGoal, FindsBusy, ShowsWait, SuspendsGoal}
use Rattle.goal_board.specs.declared.answers.Suspended.{Suspended}
use Rattle.goal_board.specs.declared.answers.Suspended.TheVariants.{Ready, Waiting}
use Rattle.goal_board.proofs.Kept.{wait_left, no_wait, some_wait}
use Rattle.goal_board.proofs.Overs.{sound_at}
use Rattle.board_rule.specs.May.{MaySuspend}
use Rattle.board_rule.specs.Waiters.{cleared}
use Rattle.goal_board.specs.Alone.{HasWait}
use Rattle.board_rule.specs.Records.{Claimed}
use Rattle.board_rule.proofs.Rights.{held_by, rights_at}
use Rattle.board_rule.proofs.Lists.{term_le, absent_each}
use Rattle.std.specs.Int.{bit_at}
use Rattle.std.proofs.lemmas.Nat.Bits.{bit_at-zero}
use Rattle.goal_board.proofs.Seen.{HasSeen, seen_none, sees_at, sees}

-- whether a word was found set
pub found_set : (value : ℕ) → IsTrue (not (eqb value 0)) → value ≢ 0
found_set value is none = let at_zero : not (eqb value 0) ≡ false = ap (λ x. not (eqb x 0)) none in let bad : ⊥ = cc in
    bad

pub found_unset : (value : ℕ) → not (eqb value 0) ≡ false → value ≡ 0
found_unset value is = ⊎_elim (λ none. none) (λ taken. let otherwise : not (eqb value 0) ≡ true =
    ap not (ne_eqb value 0 taken) in let bad : ⊥ = cc in absurd bad) (cases_eq value 0)

module _ {R : Type 0} {meaning_of : R → Meaning} {rules : R} {capacity : ℕ} where
  pub reads_cell : {v w : Hands R} {at value : ℕ} {found : Option ℕ} → AreHandsOver meaning_of rules capacity v
      → LooksAt meaning_of v (cell_word at) value w
      → value ≡ found_word found → ((word : ℕ) → found ≡ Some word → word ≢ 0) → ReadsCell v at found w
  reads_cell {v} {at} {value} over told same is_word = record {
    hands_are = told.hands_are ∙ ap (looked v (cell_word at)) same;
    some_word = is_word;
    looks = subst (λ x. IsSeen v ((cell_word at, x) ∷ [])) same
        (sees (seen_none v) over told (λ e. omega (arith, e))).looks;
  }

  -- no goal stood in the cell
  pub finds_no_goal : {v w : Hands R} {at value : ℕ} → AreHandsOver meaning_of rules capacity v
      → LooksAt meaning_of v (cell_word at) value w
      → (value ≡ 0) ⊎ ((meaning_of rules).goal value ≡ false) → FindsBusy (meaning_of rules) capacity v at w
  finds_no_goal {v} {at} {value} over told not_goal = record {
    more = (cell_word at, value) ∷ [];
    looks = (sees (seen_none v) over told (λ e. omega (arith, e))).looks;
    busy = inl (value, inl (refl, refl), not_goal);
    hands_are = told.hands_are;
  }

  -- both looks of a claim
  both_looks : {v w u : Hands R} (at : ℕ) {goal run : ℕ} → AreHandsOver meaning_of rules capacity v
      → AreHandsOver meaning_of rules capacity w → LooksAt meaning_of v (cell_word at) goal w
      → LooksAt meaning_of w (run_word at) run u → HasSeen v ((run_word at, run) ∷ ((cell_word at, goal) ∷ [])) u
  both_looks {v} at over after told next =
      sees (sees (seen_none v) over told (λ e. omega (arith, e))) after next (λ e. omega (arith, e))

  -- the seat has no right to a goal whose run word was 0
  no_right : (w : Hands R) (at value : ℕ) → at < capacity → AreHandsOver meaning_of rules capacity w
      → Moment meaning_of w (run_word at) value → value ≡ 0 → Each (λ (r : Claimed). r.place ≢ at) w.rights
  no_right w at value near over moment free =
      let t = sound_at meaning_of rules capacity w (run_word at) value over moment in
      let s = t.0 in
      let running = (s.sound.by_kinds.rights at near).running in
      let none : bit_at ((mem s.words).run at) 8 ≡ 0 = ap (λ n. bit_at n 8) (sym t.1 ∙ free) ∙ bit_at-zero 8 in
      let mine = term_le (λ (h : Hands R). rights_at at h.rights) s.views s.id w s.mine in
      absent_each (λ (r : Claimed). r.place) at w.rights (omega arith)

  pub claims_goal : {v w x u : Hands R} {at goal run value : ℕ} → at < capacity
      → AreHandsOver meaning_of rules capacity v
      → AreHandsOver meaning_of rules capacity w → AreHandsOver meaning_of rules capacity x
      → LooksAt meaning_of v (cell_word at) goal w → goal ≢ 0 → (meaning_of rules).goal goal ≡ true
      → LooksAt meaning_of w (run_word at) run x → run ≡ 0
      → Tries meaning_of x (run_word at) value (claimed x at) u → value ≡ 0
      → ClaimsGoal (meaning_of rules) capacity v at (record { place = at; goal = goal; waits = 0 }) u
  claims_goal {v} {w} {x} {u} {at} {goal} {run} {value} near over after last told some_goal is_goal next ready tries
      free =
      let saw = both_looks at over after told next in
      let looked_is : x ≡ looked (looked v (cell_word at) goal) (run_word at) 0 =
      saw.hands_are ∙ ap (λ n. looked (looked v (cell_word at) goal) (run_word at) n) ready in
      let is : u ≡ claimed (looked (looked v (cell_word at) goal) (run_word at) 0) at =
      tries.hit free ∙ ap (λ h. claimed h at) looked_is in
      let here : Looked w.looks (cell_word at) goal =
      subst (λ (h : Hands R). Looked h.looks (cell_word at) goal) (sym told.hands_are) (inl (refl, refl)) in
      record {
        there = refl;
        no_waits = refl;
        its = subst (λ (h : Hands R). IsRightOf (meaning_of rules) capacity h
            (record { place = at; goal = goal; waits = 0 })) (sym is) (record {
              near = near;
              held = inl refl;
              few = omega arith;
              stands = inr (inr (inl (refl, refl)));
              some_goal = some_goal;
              is_goal = is_goal;
              enters = after.entries at goal near here some_goal;
            });
        looks = subst (λ n. IsSeen v ((run_word at, 0) ∷ ((run_word at, n) ∷ ((cell_word at, goal) ∷ [])))) ready
            (subst (λ n. IsSeen v ((run_word at, n) ∷ ((run_word at, run) ∷ ((cell_word at, goal) ∷ [])))) free
            (sees_at saw last tries.moment (λ e. omega (arith, e))));
        hands_are = is;
        new = subst (λ (h : Hands R). Each (λ (r : Claimed). r.place ≢ at) h.rights) looked_is
            (no_right x at value near last tries.moment free);
        lone = over.all;
      }

  -- the look at the run word found it taken
  pub finds_taken : {v w u : Hands R} {at goal value : ℕ} → AreHandsOver meaning_of rules capacity v
      → AreHandsOver meaning_of rules capacity w
      → LooksAt meaning_of v (cell_word at) goal w → goal ≢ 0 → (meaning_of rules).goal goal ≡ true
      → LooksAt meaning_of w (run_word at) value u → value ≢ 0
      → FindsBusy (meaning_of rules) capacity v at u
  finds_taken {v} {w} {at} {goal} {value} over after told some_goal is_goal next taken = record {
    more = (run_word at, value) ∷ ((cell_word at, goal) ∷ []);
    looks = (both_looks at over after told next).looks;
    busy = inr (record {
      earlier = (cell_word at, goal) ∷ [];
      later = (run_word at, value) ∷ [];
      split = refl;
      goal = goal;
      some_goal = some_goal;
      is_goal = is_goal;
      stands = inl (refl, refl);
      run = value;
      taken = taken;
      found = inl (refl, refl);
    });
    hands_are = (both_looks at over after told next).hands_are;
  }

  -- or the step after it
  pub finds_busy : {v w x u : Hands R} {at goal run value : ℕ} → AreHandsOver meaning_of rules capacity v
      → AreHandsOver meaning_of rules capacity w → AreHandsOver meaning_of rules capacity x
      → LooksAt meaning_of v (cell_word at) goal w → goal ≢ 0 → (meaning_of rules).goal goal ≡ true
      → LooksAt meaning_of w (run_word at) run x
      → Tries meaning_of x (run_word at) value (claimed x at) u → value ≢ 0
      → FindsBusy (meaning_of rules) capacity v at u
  finds_busy {v} {w} {x} {at} {goal} {run} {value} over after last told some_goal is_goal next tries taken = record {
    more = (run_word at, value) ∷ ((run_word at, run) ∷ ((cell_word at, goal) ∷ []));
    looks = sees_at (both_looks at over after told next) last tries.moment (λ e. omega (arith, e));
    busy = inr (record {
      earlier = (run_word at, run) ∷ ((cell_word at, goal) ∷ []);
      later = (run_word at, value) ∷ [];
      split = refl;
      goal = goal;
      some_goal = some_goal;
      is_goal = is_goal;
      stands = inr (inl (refl, refl));
      run = value;
      taken = taken;
      found = inl (refl, refl);
    });
    hands_are = tries.miss taken
        ∙ ap (λ h. looked h (run_word at) value) (both_looks at over after told next).hands_are;
  }

  -- a right was given up
  suspends : (v w : Hands R) (place found : ℕ) (answer : Suspended) → AreHandsOver meaning_of rules capacity v
      → SuspendsAt meaning_of v place found w → ShowsWait answer found → (answer ≡ Ready → cleared found 8 ≡ 0)
      → SuspendsGoal v place answer w
  suspends v w place found answer over told waits ready = record {
    found = found;
    hands_are = told.hands_are;
    waits = waits;
    ready = ready;
    not_ready = wait_left found;
    looks = sees_at (seen_none v) over told.moment (λ e. omega (arith, e));
  }

  pub suspends_ready : {v w : Hands R} {place found : ℕ} → AreHandsOver meaning_of rules capacity v
      → SuspendsAt meaning_of v place found w → found ≡ 256 → SuspendsGoal v place Ready w
  suspends_ready {v} {w} {place} {found} over told held =
      suspends v w place found Ready over told (subst (λ n. HasWait n → ⊥) (sym held) no_wait)
      (λ _. ap (λ n. cleared n 8) held)

  pub suspends_waiting : {v w : Hands R} {place found : ℕ} → AreHandsOver meaning_of rules capacity v
      → MaySuspend capacity v place → SuspendsAt meaning_of v place found w → found ≢ 256
      → SuspendsGoal v place Waiting w
  suspends_waiting {v} {w} {place} {found} over may told more =
      let t = sound_at meaning_of rules capacity v (run_word place) found over told.moment in
      let s = t.0 in
      let m = mem s.words in
      let near = may.has.near in
      let is = held_by capacity m.run m.head s.views s.id v place s.mine may.has s.sound.by_kinds.rights in
      let one : bit_at found 8 ≡ 1 = ap (λ n. bit_at n 8) t.1 ∙ is.runs in
      let small = (s.sound.by_kinds.rights place near).small in
      suspends v w place found Waiting over told
      (some_wait found one (λ i high. ap (λ n. bit_at n i) t.1 ∙ small i high) more)
      (λ is. let no : ⊥ = cc in absurd no)
