-- What the turn of a claimed goal does to the hands of its seat, as the step needs it.
use Rattle.std.proofs.Common.{◌≡◌, ℕ, ◌+◌, List, [], ◌∷◌, ◌++◌, cond, None, eq-eqb, append_assoc, sym, refl, ap, ◌∙◌}
use Rattle.std.proofs.Common.{subst, inl, inr, arith}
use Rattle.board_rule.specs.Words.{full_word, run_word, head_word}
use Rattle.board_rule.specs.Records.{Claimed}
use Rattle.board_rule.specs.Waiters.{head_of}
use Rattle.board_rule.specs.Looks.{Looked}
use Rattle.board_rule.specs.Seats.{fresh_right, without, waits_at}
use Rattle.board_rule.specs.declared.hands.Hands.{Hands}
use Rattle.goal_board.specs.declared.board.Right.{Right}
use Rattle.goal_board.specs.declared.answers.Woken.{Woken}
use Rattle.goal_board.specs.RightCalls.{FinishesGoal, finishes}
use Rattle.goal_board.proofs.Seen.{looked_earlier}
use Rattle.board_moves.specs.Moves.{with_waits, Moves}
use Rattle.board_moves.specs.Turns.{GivesUp, TurnFinishes, TurnSuspends, TurnRunsOut}
use Rattle.board_moves.proofs.CallMoves.{later_moved}
use Rattle.job_scheduler.specs.Workers.{Later}
use Rattle.job_scheduler.specs.Steps.{TurnKeeps, FinishesOne, SuspendsOne, RunsOut}

-- the right to a goal with so many waits, which is the only one
abbrev only : ℕ → ℕ → List Claimed
only place waits = record { place = place; waits = waits; cost = None; node = None; who = None } ∷ []

waits_only : (place waits : ℕ) → with_waits place waits (fresh_right place ∷ []) ≡ only place (0 + waits)
waits_only place waits = ap (λ b. cond b (record (fresh_right place) { waits = 0 + waits }) (fresh_right place) ∷ [])
    (eq-eqb place place refl)

spent_only : (place waits : ℕ) → without place (only place waits) ≡ []
spent_only place waits = ap (λ b. cond b [] (only place waits)) (eq-eqb place place refl)

count_only : (place waits : ℕ) → waits_at place (only place waits) ≡ waits
count_only place waits = ap (λ b. cond b waits 0) (eq-eqb place place refl)

module _ {R : Type 0} where
  -- the only right, while the turn lasts
  moved_right : (place : ℕ) (v : Hands R) (puts : List ℕ) (waits : ℕ) (w : Hands R) → Moves place v puts waits w
      → v.rights ≡ fresh_right place ∷ [] → w.rights ≡ only place (0 + waits)
  moved_right place v puts waits w m is = ap (λ (h : Hands R). h.rights) m.hands_are
      ∙ (ap (with_waits place waits) is ∙ waits_only place waits)

  -- a goal that was finished
  module _ (capacity : ℕ) (v : Hands R) (place worker cost node : ℕ) (woken : Woken) (w : Hands R)
      (t : FinishesGoal capacity v place worker cost node woken w) where
    finish_is : w ≡ record (finishes v place worker cost node t.waiters) {
      alone = t.wakes.words;
      looks = t.wakes.more ++ ((head_word place, head_of t.waiters) ∷ v.looks);
      woken = t.wakes.gained ++ v.woken;
      walk = t.wakes.left;
    }
    finish_is = t.wakes.hands_are

    finish_later : Later v.looks w.looks
    finish_later word found look = subst (λ (h : Hands R). Looked h.looks word found) (sym finish_is)
        (looked_earlier t.wakes.more ((head_word place, head_of t.waiters) ∷ v.looks) word found (inr look))

  -- a goal that was suspended
  give_up_later : (v : Hands R) (place : ℕ) (w : Hands R) → GivesUp v place w → Later v.looks w.looks
  give_up_later v place w (answer, t) word found look =
      subst (λ (h : Hands R). Looked h.looks word found) (sym t.hands_are) (inr look)

module _ {R : Type 0} (capacity : ℕ) (Adds : ℕ → Type 0) (v : Hands R) (right : Right) (number : ℕ) where
  pub finishes_keeps : (woken : Woken) (w : Hands R) → TurnFinishes capacity Adds v right number woken w
      → TurnKeeps v w right.place
  finishes_keeps woken w t =
      let m = t.proceeds.moves in
      let f : w ≡ _ = finish_is capacity t.middle right.place number t.cost t.node woken w t.finishes in record {
        parts = ap (λ (h : Hands R). h.parts) f ∙ ap (λ (h : Hands R). h.parts) m.hands_are;
        claims = ap (λ (h : Hands R). h.claims) f ∙ ap (λ (h : Hands R). h.claims) m.hands_are;
        rights = λ is. ap (λ (h : Hands R). h.rights) f
            ∙ (ap (without right.place) (moved_right right.place v t.proceeds.puts t.proceeds.waits t.middle m is)
            ∙ spent_only right.place (0 + t.proceeds.waits));
        looks = λ word found look. finish_later capacity t.middle right.place number t.cost t.node woken w t.finishes
            word
            found
            (later_moved right.place v t.proceeds.puts t.proceeds.waits t.middle m word found look);
      }

  pub finishes_one : (woken : Woken) (w : Hands R) → TurnFinishes capacity Adds v right number woken w
      → FinishesOne v w number right.place
  finishes_one woken w t =
      let m = t.proceeds.moves in
      let f : w ≡ _ = finish_is capacity t.middle right.place number t.cost t.node woken w t.finishes in record {
        cost = t.cost;
        node = t.node;
        done = ap (λ (h : Hands R). h.done) f ∙ ap
            (λ (h : Hands R). record { place = right.place; worker = number; cost = t.cost; node = t.node } ∷ h.done)
            m.hands_are;
        suspensions = ap (λ (h : Hands R). h.suspensions) f ∙ ap (λ (h : Hands R). h.suspensions) m.hands_are;
      }

  pub suspends_keeps : (w : Hands R) → TurnSuspends capacity Adds v right number w → TurnKeeps v w right.place
  suspends_keeps w t =
      let m = t.proceeds.moves in
      let s : w ≡ _ = t.gives_up.1.hands_are in record {
        parts = ap (λ (h : Hands R). h.parts) s ∙ ap (λ (h : Hands R). h.parts) m.hands_are;
        claims = ap (λ (h : Hands R). h.claims) s ∙ ap (λ (h : Hands R). h.claims) m.hands_are;
        rights = λ is. ap (λ (h : Hands R). h.rights) s
            ∙ (ap (without right.place) (moved_right right.place v t.proceeds.puts t.proceeds.waits t.middle m is)
            ∙ spent_only right.place (0 + t.proceeds.waits));
        looks = λ word found look. give_up_later t.middle right.place w t.gives_up word found
            (later_moved right.place v t.proceeds.puts t.proceeds.waits t.middle m word found look);
      }

  pub suspends_one : right.waits ≡ 0 → v.rights ≡ fresh_right right.place ∷ [] → (w : Hands R)
      → TurnSuspends capacity Adds v right number w → SuspendsOne v w right.place
  suspends_one fresh is w t =
      let m = t.proceeds.moves in
      let s : w ≡ _ = t.gives_up.1.hands_are in
      let counted : waits_at right.place t.middle.rights ≡ 0 + t.proceeds.waits =
      ap (waits_at right.place) (moved_right right.place v t.proceeds.puts t.proceeds.waits t.middle m is)
      ∙ count_only right.place (0 + t.proceeds.waits) in
      let some = t.some_wait in
      let more = t.proceeds.more_waits in record {
        waits = waits_at right.place t.middle.rights;
        some_wait = omega (arith, some, more, fresh, counted);
        suspensions = ap (λ (h : Hands R). h.suspensions) s
            ∙ ap (λ (h : Hands R). record {
              place = right.place;
              waits = waits_at right.place t.middle.rights;
            } ∷ h.suspensions) m.hands_are;
        done = ap (λ (h : Hands R). h.done) s ∙ ap (λ (h : Hands R). h.done) m.hands_are;
      }

  pub runs_out_keeps : (w : Hands R) → TurnRunsOut capacity Adds v right number w → TurnKeeps v w right.place
  runs_out_keeps w t =
      let m = t.runs_out.proceeds.moves in
      let f = t.runs_out.full.hands_are in
      let s : w ≡ _ = t.gives_up.1.hands_are in
      let puts = t.runs_out.proceeds.puts in
      let waits = t.runs_out.proceeds.waits in
      let middle = t.runs_out.middle in record {
        parts = ap (λ (h : Hands R). h.parts) s ∙ (ap (λ (h : Hands R). h.parts) f
            ∙ ap (λ (h : Hands R). h.parts) m.hands_are);
        claims = ap (λ (h : Hands R). h.claims) s
            ∙ (ap (λ (h : Hands R). h.claims) f ∙ ap (λ (h : Hands R). h.claims) m.hands_are);
        rights = λ is. ap (λ (h : Hands R). h.rights) s
            ∙ (ap (λ (h : Hands R). without right.place h.rights) f
            ∙ (ap (without right.place) (moved_right right.place v puts waits middle m is)
            ∙ spent_only right.place (0 + waits)));
        looks = λ word found look. give_up_later t.middle right.place w t.gives_up word found
            (subst (λ (h : Hands R). Looked h.looks word found) (sym f)
            (inr (looked_earlier t.runs_out.full.more middle.looks word found
            (later_moved right.place v puts waits middle m word found look))));
      }

  pub runs_out : (w : Hands R) → TurnRunsOut capacity Adds v right number w → RunsOut v w
  runs_out w t =
      let m = t.runs_out.proceeds.moves in
      let f = t.runs_out.full.hands_are in
      let g = t.gives_up.1 in
      let s : w ≡ _ = g.hands_are in
      let first = m.more in
      let second = t.runs_out.full.more in record {
        more = (run_word right.place, g.found) ∷ ((full_word, 1) ∷ (second ++ first));
        looks = ap (λ (h : Hands R). h.looks) s
            ∙ (ap (λ (h : Hands R). (run_word right.place, g.found) ∷ h.looks) f
            ∙ (ap (λ (h : Hands R). (run_word right.place, g.found) ∷ ((full_word, 1) ∷ (second ++ h.looks)))
            m.hands_are
            ∙ ap (λ (l : List (ℕ × ℕ)). (run_word right.place, g.found) ∷ ((full_word, 1) ∷ l))
            (sym (append_assoc second first v.looks))));
        full = (1, inr (inl (refl, refl)), λ (e : 1 ≡ 0). omega arith);
        done = ap (λ (h : Hands R). h.done) s ∙ (ap (λ (h : Hands R). h.done) f
            ∙ ap (λ (h : Hands R). h.done) m.hands_are);
      }
