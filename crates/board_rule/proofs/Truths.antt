-- What looks show is so.
use Rattle.std.proofs.Common.{◌≡◌, ℕ, List, ◌∷◌, get_or, sym, ap, subst, ◌∙◌, inl, inr, ⊎_elim, ◌≢◌}
use Rattle.word_table.specs.Probing.{home_of, steps_to, PassesOthers}
use Rattle.word_table.proofs.ProbingLemmas.{lacks_at_empty}
use Rattle.board_rule.specs.Meaning.{Meaning}
use Rattle.board_rule.specs.Words.{Mem, mem, cell_word, full_word, head_word}
use Rattle.board_rule.specs.Looks.{SawOthers, ShowsFinished, seen_closed, child_of, ShowsEntry, seen_there, asked_by}
use Rattle.board_rule.specs.Looks.{finished, ShowsPromise, ForgetsNone}
use Rattle.board_rule.proofs.Chains.{later_closed}
use Rattle.board_rule.specs.Soundness.{AreCells, Stands, IsFinished, IsPromised, KeepsPromises, Stays}
use Rattle.board_rule.specs.Waiters.{IsLater}

module _ (meaning : Meaning) (capacity : ℕ) (m : Mem) (promises : KeepsPromises meaning capacity m.cell m.head m.cost
    m.node)
    (looks : List (ℕ × ℕ)) (stays : Stays m.cell m.head m.full looks) where
  pub shown_finished : (goal : ℕ) → ShowsFinished meaning capacity looks goal
      → IsFinished meaning capacity m.cell m.head goal
  shown_finished _ (seen_closed goal p near some_goal at closed) = (
    p,
    near,
    some_goal,
    stays.cells p goal at some_goal,
    later_closed closed.0 (m.head p) (stays.heads p closed.0 closed.1) closed.2,
  )
  shown_finished _ (child_of goal child shown is) =
      let t = shown_finished goal shown in (promises.promise t.0 t.1 t.4).children child
      (subst (λ g. meaning.child g child) (sym t.3) is)

  pub shown_stands : (word : ℕ) → ShowsEntry meaning capacity looks word → Stands meaning capacity m.cell word
  shown_stands _ (seen_there word p near some_word at) = (p, near, some_word, stays.cells p word at some_word)
  shown_stands _ (asked_by goal word shown is) =
      let t = shown_finished goal shown in (promises.promise t.0 t.1 t.4).asked word
      (subst (λ g. meaning.asked g word) (sym t.3) is)
  shown_stands _ (finished goal shown) = let t = shown_finished goal shown in (t.0, t.1, t.2, t.3)

  pub shown_promise : (goal : ℕ) → ShowsPromise meaning capacity looks goal
      → IsPromised meaning capacity m.cell m.head goal
  shown_promise goal shows = record {
    children = λ child is. shown_finished child (shows.children child is);
    asked = λ word is. shown_stands word (shows.asked word is);
  }

  -- other words that looks found stand there still
  pub saw_passes : (word steps : ℕ) → SawOthers capacity looks word steps → PassesOthers capacity m.cell word steps
  saw_passes word steps saw p near before =
      let t = saw p near before in let e = stays.cells p t.0 t.1 t.2 in
      ((λ none. t.2 (sym e ∙ none)), λ same. t.3 (sym e ∙ same))

  -- where a cell is empty, no word that the looks show was passed by on the way to it
  pub forgets_none : AreCells meaning capacity m.cell → (empty : ℕ)
      → ((place : ℕ) → cell_word place ≡ empty → m.cell place ≡ 0) → ForgetsNone meaning capacity looks empty
  forgets_none cells empty none word place near is shows saw =
      let t = shown_stands word shows in
      lacks_at_empty capacity m.cell word place cells.are_set t.2 near (none place is)
      (saw_passes word (steps_to capacity (home_of word capacity) place) saw) t.0 t.1 t.3

-- what was seen stays, and so does what one look more has found
pub stays_looked : (cell head : ℕ → ℕ) (full : ℕ) (looks : List (ℕ × ℕ)) (word found : ℕ)
    → ((p : ℕ) → word ≡ cell_word p → found ≢ 0 → cell p ≡ found)
    → ((p : ℕ) → word ≡ head_word p → IsLater found (head p))
    → (word ≡ full_word → found ≢ 0 → full ≢ 0)
    → Stays cell head full looks → Stays cell head full ((word, found) ∷ looks)
stays_looked cell head full looks word found in_cell in_head in_full old = record {
  cells = λ p x at some_x. ⊎_elim (λ t. in_cell p t.0 (λ none. some_x (sym t.1 ∙ none)) ∙ t.1)
      (λ t. old.cells p x t some_x) at;
  heads = λ p x at. ⊎_elim (λ t. subst (λ y. IsLater y (head p)) t.1 (in_head p t.0)) (λ t. old.heads p x t) at;
  set_full = λ x at some_x. ⊎_elim (λ t. in_full t.0 (λ none. some_x (sym t.1 ∙ none)))
      (λ t. old.set_full x t some_x) at;
}

-- a look at a word finds what stays so
pub look_stays : (words : List ℕ) (word : ℕ) (looks : List (ℕ × ℕ))
    → Stays (mem words).cell (mem words).head (mem words).full looks
    → Stays (mem words).cell (mem words).head (mem words).full ((word, get_or words word 0) ∷ looks)
look_stays words word looks =
    stays_looked (mem words).cell (mem words).head (mem words).full looks word (get_or words word 0)
    (λ p e _. ap (λ k. get_or words k 0) (sym e)) (λ p e. inr (inl (ap (λ k. get_or words k 0) (sym e))))
    (λ e some_found none. some_found (ap (λ k. get_or words k 0) e ∙ none))
