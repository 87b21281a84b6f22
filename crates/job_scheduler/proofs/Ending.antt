-- What a step leaves of a crew's worker, and what it shows at the end.
use Rattle.std.proofs.Common.{◌≡◌, ℕ, ◌<◌, sym, ap, subst, inl, inr, ⊎_elim}
use Rattle.board_rule.specs.Meaning.{Meaning}
use Rattle.board_rule.specs.Looks.{ShowsClosed, ShowsFull}
use Rattle.board_rule.specs.declared.hands.Hands.{Hands}
use Rattle.job_scheduler.specs.Steps.{Steps, FinishesOne, SuspendsOne}
use Rattle.job_scheduler.specs.Crews.{ShowsEnd, AreDoneBelow}
use Rattle.job_scheduler.specs.declared.stepped.Stepped.{Stepped}
use Rattle.job_scheduler.specs.declared.stepped.Stepped.TheVariants as stepped
use Rattle.job_scheduler.proofs.Looking.{closed_later, full_later}

module _ {R : Type 0} (meaning : Meaning) (capacity root number n : ℕ) where
  -- what a step adds to what its worker finished has its worker's number
  pub done_below : (v : Hands R) (result : Stepped) (w : Hands R) → number < n
      → Steps meaning capacity root number v result w → AreDoneBelow n v.done → AreDoneBelow n w.done
  done_below v stepped.Ran w small t below =
      ⊎_elim (λ (f : FinishesOne v w number t.place). subst (AreDoneBelow n) (sym f.done) (small, below))
      (λ (f : SuspendsOne v w t.place). subst (AreDoneBelow n) (sym f.done) below) t.ends
  done_below v stepped.Idle w small t below =
      subst (AreDoneBelow n) (sym (ap (λ (h : Hands R). h.done) t.looks.hands_are)) below
  done_below v stepped.Done w small t below =
      subst (AreDoneBelow n) (sym (ap (λ (h : Hands R). h.done) t.looks.hands_are)) below
  done_below v stepped.Full w small t below = subst (AreDoneBelow n) (sym t.runs_out.done) below

  -- a step that is done, or full, shows the end
  pub done_ends : (v w : Hands R) → Steps meaning capacity root number v stepped.Done w → ShowsEnd w.looks root
  done_ends v w t = inl (subst (λ (h : Hands R). ShowsClosed h.looks root) (sym t.looks.hands_are)
      (closed_later t.looks.more v.looks root t.closed))

  pub full_ends : (v w : Hands R) → Steps meaning capacity root number v stepped.Full w → ShowsEnd w.looks root
  full_ends v w t = inr (subst (λ looks. ShowsFull looks) (sym t.runs_out.looks)
      (full_later t.runs_out.more v.looks t.runs_out.full))
