-- What the look-up of a goal on a finished search's board finds.
use Rattle.std.proofs.Common.{◌≡◌, ℕ, ◌^◌, ◌<◌, ◌≤◌, List, Contains, refl, sym, subst, ◌∙◌}
use Rattle.std.proofs.lemmas.List.Elements.{All-contains}
use Rattle.goal_space.specs.Answers.{words_told}
use Rattle.goal_board.specs.Closed.{finished_at, finished_below}
use Rattle.goal_board.specs.Closing.{mem_of, finished_of, HasAnswer, HasFinished}
use Rattle.goal_board.specs.declared.answers.Answer.{Answer}
use Rattle.goal_board.specs.declared.answers.Finished.{Finished}
use Rattle.job_outcome.specs.Searched.{told_with, told_of, answers_of}
use Rattle.job_outcome.specs.declared.searched.Searched.{Searched}
use Rattle.job_outcome.proofs.ListLemmas.{contains_map, contains_unmap}
use Rattle.job_outcome.proofs.Places.{all_below, contains_below, goal_in}
use Rattle.job_outcome.proofs.Ending.{words_of_told}

module _ (searched : Searched) (goal : ℕ) where
  -- an answer that was found is one of the search's
  pub found_told : (answer : Answer) → HasAnswer searched.board goal answer
      → Contains (answers_of searched) (told_with goal answer)
  found_told answer (p, is, same) =
      let m = mem_of searched.board in
      let n = searched.board.capacity in
      subst (Contains (answers_of searched)) (λ i. told_with (is.stands i) (sym same i))
      (contains_map told_of (finished_at m p) (finished_below m n) (contains_below m n p is.near is.closed))

  abbrev IsPlaced : Finished → Type 0
  IsPlaced f = (p : ℕ) × (p < searched.board.capacity) × (2 ^ 63 ≤ (mem_of searched.board).head p)
      × (f.goal ≡ (mem_of searched.board).cell p)

  -- the goal of each answer is finished
  pub told_finished : Contains (words_told (answers_of searched)) goal → HasFinished searched.board goal
  told_finished has =
      let m = mem_of searched.board in
      let n = searched.board.capacity in
      let (f, there, is) = contains_unmap goal_in goal (finished_of searched.board)
      (subst (λ (l : List ℕ). Contains l goal) (words_of_told (finished_of searched.board)) has) in
      let (p, near, closed, at) = All-contains IsPlaced (finished_below m n) f
      (all_below m IsPlaced n (λ p near closed. (p, near, closed, refl))) there in
      (p, record { near = near; stands = sym at ∙ is; closed = closed })
