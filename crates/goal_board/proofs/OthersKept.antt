-- What a call on one right leaves of the seat's other rights.
use Rattle.std.proofs.Common.{◌≡◌, ◌≢◌, ℕ, ◌+◌, List, [], ◌∷◌, ◌++◌, cond, sym, ap, subst, inl, inr, ⊎_elim, ne_eqb}
use Rattle.std.proofs.Common.{◌∙◌, append_assoc, ◌==◌}
use Rattle.board_rule.specs.Meaning.{Meaning}
use Rattle.board_rule.specs.Records.{Claimed}
use Rattle.board_rule.specs.Words.{cell_word, head_word}
use Rattle.board_rule.specs.Waiters.{head_of}
use Rattle.board_rule.specs.Looks.{Looked}
use Rattle.board_rule.specs.Seats.{Among, without}
use Rattle.board_rule.specs.declared.hands.Hands.{Hands}
use Rattle.board_rule.proofs.Lists.{among_map}
use Rattle.board_rule.proofs.Rights.{without_cases}
use Rattle.goal_board.specs.RightCalls.{waiting_right, IsRightOf, KeepsRights, KeepsOthers, ClaimsGoal, FindsBusy}
use Rattle.goal_board.specs.RightCalls.{SuspendsGoal, Registers, FindsFinished, FinishesGoal}
use Rattle.goal_board.specs.declared.board.Right.{Right}
use Rattle.goal_board.specs.declared.answers.Suspended.{Suspended}
use Rattle.goal_board.specs.declared.answers.Woken.{Woken}
use Rattle.goal_board.proofs.Finishing.{changed_at}
use Rattle.goal_board.proofs.Seen.{looked_earlier}

-- a right of another place is among those that are left
among_left : (place : ℕ) (rights : List Claimed) (r : Claimed) → r.place ≢ place → Among rights r
    → Among (without place rights) r
among_left place [] r apart at = absurd at
among_left place (q ∷ qs) r apart at =
    without_cases (λ left. Among left r) place q qs
    (λ here. ⊎_elim (λ (e : q ≡ r). absurd (apart (sym (ap (λ (p : Claimed). p.place) e) ∙ here))) (λ t. t) at)
    (λ _. ⊎_elim (λ (e : q ≡ r). inl e) (λ t. inr (among_left place qs r apart t)) at)

-- and among those that were changed at the place
among_unchanged : (place : ℕ) (change : Claimed → Claimed) (rights : List Claimed) (r : Claimed) → r.place ≢ place
    → Among rights r → Among (changed_at place change rights) r
among_unchanged place change rights r apart at =
    subst (λ b. Among (changed_at place change rights) (cond b (change r) r)) (ne_eqb r.place place apart)
    (among_map (λ (q : Claimed). cond (q.place == place) (change q) q) rights r at)

module _ {R : Type 0} {meaning : Meaning} {capacity : ℕ} {v w : Hands R} where
  -- a right stays where its look and the right stay
  right_stays : (right : Right) (more : List (ℕ × ℕ)) → w.looks ≡ more ++ v.looks
      → Among w.rights (waiting_right right.place right.waits) → IsRightOf meaning capacity v right
      → IsRightOf meaning capacity w right
  right_stays right more looks held old =
      let stands = subst (λ (ls : List (ℕ × ℕ)). Looked ls (cell_word right.place) right.goal) (sym looks)
      (looked_earlier more v.looks (cell_word right.place) right.goal old.stands) in
      assumption (old, held, stands)

  pub busy_keeps : {at : ℕ} → FindsBusy meaning capacity v at w → KeepsRights meaning capacity v w
  busy_keeps t right old =
      right_stays right t.more (ap (λ (h : Hands R). h.looks) t.hands_are)
      (subst (λ (h : Hands R). Among h.rights (waiting_right right.place right.waits)) (sym t.hands_are) old.held) old

  pub claim_keeps : {at : ℕ} {claimed : Right} → ClaimsGoal meaning capacity v at claimed w
      → KeepsRights meaning capacity v w
  claim_keeps {at} {claimed} t right old =
      right_stays right (_ ∷ (_ ∷ (_ ∷ []))) (ap (λ (h : Hands R). h.looks) t.hands_are)
      (subst (λ (h : Hands R). Among h.rights (waiting_right right.place right.waits)) (sym t.hands_are)
      (inr old.held)) old

  pub suspend_keeps : {place : ℕ} {answer : Suspended} → SuspendsGoal v place answer w
      → KeepsOthers meaning capacity place v w
  suspend_keeps {place} t right apart old =
      right_stays right (_ ∷ []) (ap (λ (h : Hands R). h.looks) t.hands_are)
      (subst (λ (h : Hands R). Among h.rights (waiting_right right.place right.waits)) (sym t.hands_are)
      (among_left place v.rights (waiting_right right.place right.waits) apart old.held)) old

  pub register_keeps : {place at : ℕ} → Registers capacity v place at w → KeepsOthers meaning capacity place v w
  register_keeps {place} t right apart old =
      right_stays right t.more (ap (λ (h : Hands R). h.looks) t.hands_are)
      (subst (λ (h : Hands R). Among h.rights (waiting_right right.place right.waits)) (sym t.hands_are)
      (among_unchanged place (λ r. record r { waits = r.waits + 1 }) v.rights (waiting_right right.place right.waits)
      apart old.held)) old

  pub finished_keeps : {place at : ℕ} → FindsFinished capacity v place at w → KeepsOthers meaning capacity place v w
  finished_keeps t right apart old =
      right_stays right t.more (ap (λ (h : Hands R). h.looks) t.hands_are)
      (subst (λ (h : Hands R). Among h.rights (waiting_right right.place right.waits)) (sym t.hands_are) old.held) old

  pub finish_keeps : {place worker cost node : ℕ} {woken : Woken}
      → FinishesGoal capacity v place worker cost node woken w
      → KeepsOthers meaning capacity place v w
  finish_keeps {place} t right apart old =
      let closed : ℕ × ℕ = (head_word place, head_of t.waiters) in
      right_stays right (t.wakes.more ++ closed ∷ [])
      (ap (λ (h : Hands R). h.looks) t.wakes.hands_are ∙ sym (append_assoc t.wakes.more (closed ∷ []) v.looks))
      (subst (λ (h : Hands R). Among h.rights (waiting_right right.place right.waits)) (sym t.wakes.hands_are)
      (among_left place v.rights (waiting_right right.place right.waits) apart old.held)) old
