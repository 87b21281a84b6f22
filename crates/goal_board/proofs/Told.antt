-- What the plays of steps tell, read over hands.
use Rattle.std.proofs.Common.{◌≡◌, ◌≢◌, ℕ, ◌/◌, sym, ap, subst, ◌∙◌, ⊎_elim}
use Rattle.std.proofs.lemmas.Bool.{cases_eq}
use Rattle.board_rule.specs.Meaning.{Meaning}
use Rattle.board_rule.specs.Records.{Pending}
use Rattle.board_rule.specs.Words.{run_word, head_word}
use Rattle.board_rule.specs.Seats.{head_seen, wait_dropped}
use Rattle.board_rule.specs.Plays.{Moment, Leaves, Tries, LooksAt, PushesWait, DropsWaitOf}
use Rattle.board_rule.specs.declared.hands.Hands.{Hands}

-- a compare-exchange leaves what holds either way
pub either_way : {A : Type 0} (Fact : A → Type 0) {after won lost : A} {value head : ℕ} → (value ≡ head → after ≡ won)
    → (value ≢ head → after ≡ lost) → Fact won → Fact lost → Fact after
either_way Fact {value} {head} hit miss if_won if_lost =
    ⊎_elim (λ e. subst Fact (sym (hit e)) if_won) (λ ne. subst Fact (sym (miss ne)) if_lost) (cases_eq value head)

module _ {R : Type 0} {meaning_of : R → Meaning} where
  -- the number of the word may be said in other words
  pub looks_at : {v w : Hands R} {i word value : ℕ} → i ≡ word → LooksAt meaning_of v i value w
      → LooksAt meaning_of v word value w
  looks_at {v} {w} {value} same told = subst (λ k. LooksAt meaning_of v k value w) same told

  -- one that found something else than 0 was a look
  pub missed : {v w won : Hands R} {word value : ℕ} → Tries meaning_of v word value won w → value ≢ 0
      → LooksAt meaning_of v word value w
  missed told taken = record { hands_are = told.miss taken; moment = told.moment }

  -- and so may the child of a wait that is put in
  pub push_at : {v w : Hands R} {x : Pending} {child head found : ℕ} → x.child ≡ child
      → PushesWait meaning_of v x head found w
      → (found ≢ head → w ≡ head_seen v x child found) × Moment meaning_of v (head_word child) found
  push_at {v} {w} {x} {child} {head} {found} same told = (
    (λ miss. told.miss miss ∙ ap (λ k. head_seen v x k found) same),
    subst (λ k. Moment meaning_of v (head_word k) found) same told.moment,
  )

  -- and the waiter of one that is dropped
  pub dropped_at : {v w : Hands R} (x : Pending) {waiter found : ℕ} → x.waiter ≡ waiter
      → DropsWaitOf meaning_of v x found w
      → Leaves meaning_of v (run_word (waiter / 8)) found (wait_dropped v x found) w
  dropped_at {v} {w} x {waiter} {found} same told =
      subst (λ q. Leaves meaning_of v (run_word (q / 8)) found (wait_dropped v x found) w) same told
