-- Looks add up, and what they show stays shown.
use Rattle.std.proofs.Common.{◌≡◌, ℕ, ◌<◌, ◌≤◌, List, [], ◌++◌, append_assoc, sym, refl, ap, ◌∙◌, subst, inl, inr}
use Rattle.std.proofs.Common.{⊎_elim}
use Rattle.board_rule.specs.Meaning.{Meaning}
use Rattle.board_rule.specs.Words.{cell_word, run_word, head_word, full_word}
use Rattle.board_rule.specs.Looks.{Looked, ShowsFull, ShowsClosed}
use Rattle.board_rule.specs.declared.hands.Hands.{Hands}
use Rattle.board_rule.proofs.SeenByTwo.{looked_append}
use Rattle.goal_board.specs.declared.board.Board.{Board}
use Rattle.goal_board.specs.Seats.{IsSeatOf, hands}
use Rattle.goal_board.specs.Calls.{seen, AgreesAlone}
use Rattle.goal_board.specs.RightCalls.{ShowsBusy}
use Rattle.goal_board.proofs.Seen.{looked_later, looked_earlier}
use Rattle.job_scheduler.specs.Workers.{OnlyLooked, IsWorkerOf, Later}
use Rattle.job_scheduler.specs.Claims.{ShowsOpen}
use Rattle.job_scheduler.specs.declared.worker.Worker.{Worker}

-- a place that was found busy, by further looks or by earlier ones
pub busy_later : (meaning : Meaning) (more looks : List (ℕ × ℕ)) (at : ℕ) → ShowsBusy meaning more at
    → ShowsBusy meaning (more ++ looks) at
busy_later meaning more looks at (inl (word, look, none)) =
    inl (word, looked_later more looks (cell_word at) word look, none)
busy_later meaning more looks at (inr t) = inr (record {
  earlier = t.earlier ++ looks;
  later = t.later;
  split = ap (λ (l : List (ℕ × ℕ)). l ++ looks) t.split ∙ append_assoc t.later t.earlier looks;
  goal = t.goal;
  some_goal = t.some_goal;
  is_goal = t.is_goal;
  stands = looked_later t.earlier looks (cell_word at) t.goal t.stands;
  run = t.run;
  taken = t.taken;
  found = t.found;
})

pub busy_earlier : (meaning : Meaning) (more looks : List (ℕ × ℕ)) (at : ℕ) → ShowsBusy meaning looks at
    → ShowsBusy meaning (more ++ looks) at
busy_earlier meaning more looks at (inl (word, look, none)) =
    inl (word, looked_earlier more looks (cell_word at) word look, none)
busy_earlier meaning more looks at (inr t) = inr (record {
  earlier = t.earlier;
  later = more ++ t.later;
  split = ap (λ (l : List (ℕ × ℕ)). more ++ l) t.split ∙ sym (append_assoc more t.later t.earlier);
  goal = t.goal;
  some_goal = t.some_goal;
  is_goal = t.is_goal;
  stands = t.stands;
  run = t.run;
  taken = t.taken;
  found = looked_earlier more t.later (run_word at) t.run t.found;
})

-- so for a head and the full word
pub open_earlier : (more looks : List (ℕ × ℕ)) (at : ℕ) → ShowsOpen looks at → ShowsOpen (more ++ looks) at
open_earlier more looks at t = (t.0, looked_earlier more looks (head_word at) t.0 t.1, t.2)

pub closed_later : (more looks : List (ℕ × ℕ)) (at : ℕ) → ShowsClosed more at → ShowsClosed (more ++ looks) at
closed_later more looks at t = (t.0, looked_later more looks (head_word at) t.0 t.1, t.2)

pub closed_earlier : (more looks : List (ℕ × ℕ)) (at : ℕ) → ShowsClosed looks at → ShowsClosed (more ++ looks) at
closed_earlier more looks at t = (t.0, looked_earlier more looks (head_word at) t.0 t.1, t.2)

pub full_later : (more looks : List (ℕ × ℕ)) → ShowsFull more → ShowsFull (more ++ looks)
full_later more looks t = (t.0, looked_later more looks full_word t.0 t.1, t.2)

module _ {R : Type 0} where
  pub agrees_both : (v : Hands R) (first second : List (ℕ × ℕ)) → AgreesAlone v first → AgreesAlone v second
      → AgreesAlone v (second ++ first)
  agrees_both v first second a b kept is word value look =
      ⊎_elim (λ (l : Looked second word value). b kept is word value l)
      (λ (l : Looked first word value). a kept is word value l) (looked_append second first word value look)

  pub seen_both : (u v w : Hands R) (first second : List (ℕ × ℕ)) → v ≡ seen first u → w ≡ seen second v
      → w ≡ seen (second ++ first) u
  seen_both u v w first second a b =
      b ∙ (ap (λ (h : Hands R). seen second h) a
      ∙ ap (λ (l : List (ℕ × ℕ)). record u { looks = l }) (sym (append_assoc second first u.looks)))

  -- no look
  abbrev pub no_look : (v : Hands R) → OnlyLooked v v
  no_look v = record { more = []; hands_are = refl; alone = λ kept is word value look. absurd look }

  -- the words that a seat keeps stay through looks
  pub alone_stays : (u v : Hands R) → OnlyLooked u v → v.alone ≡ u.alone
  alone_stays u v a = ap (λ (h : Hands R). h.alone) a.hands_are

  -- looks and then further looks
  abbrev pub looks_both : (u v w : Hands R) → OnlyLooked u v → OnlyLooked v w → OnlyLooked u w
  looks_both u v w a b = record {
    more = b.more ++ a.more;
    hands_are = seen_both u v w a.more b.more a.hands_are b.hands_are;
    alone = agrees_both u a.more b.more a.alone (λ kept is. b.alone kept (alone_stays u v a ∙ is));
  }

  pub looks_later : (u v : Hands R) → OnlyLooked u v → Later u.looks v.looks
  looks_later u v a word found look = subst (λ (h : Hands R). Looked h.looks word found) (sym a.hands_are)
      (looked_earlier a.more u.looks word found look)

  -- a worker that made further looks, or kept those that it had, and is otherwise the same
  pub worker_after : (meaning_of : R → Meaning) (b : Board R) (root goal : ℕ) (v w : Worker R)
      → IsWorkerOf meaning_of b root goal v
      → IsSeatOf meaning_of b w.seat → Later (hands v.seat).looks (hands w.seat).looks → w.hints ≡ b.setup.capacity
      → w.next ≤ b.setup.capacity → w.number ≡ v.number
      → IsWorkerOf meaning_of b root goal w
  worker_after meaning_of b root goal v w its seat later hints next number = record {
    seat = seat;
    root_shown = record {
      some_goal = its.root_shown.some_goal;
      is_goal = its.root_shown.is_goal;
      stands = later (cell_word root) goal its.root_shown.stands;
    };
    hints = hints;
    next = next;
    number = subst (λ n. n < 64) (sym number) its.number;
  }
