-- What a run of a search to its end gives, and what its note says.
use Rattle.std.specs.Prelude.{◌≡◌, ℕ, ◌<◌, ◌≤◌, All, length, Option, Some}
use Rattle.query_core.specs.declared.query.Query.{Query}
use Rattle.goal_space.specs.Answers.{AreAnswers, words_told}
use Rattle.board_rule.specs.declared.hands.Hands.{Hands}
use Rattle.goal_board.specs.Closing.{finished_of}
use Rattle.goal_rules.specs.declared.rules.Rules.{Rules}
use Rattle.job_scheduler.specs.Crews.{AreDoneBelow}
use Rattle.plan_report.specs.Sources.{HasAnswers}
use Rattle.job_outcome.specs.Outcomes.{HasMoreEntries, FitsIn, IsEnd}
use Rattle.job_outcome.specs.Searched.{answers_of, goals_counted, AreListsOf, HasLists}
use Rattle.job_outcome.specs.declared.searched.Lists.{Lists}
use Rattle.job_outcome.specs.declared.searched.Searched.{Searched}
use Rattle.job_outcome.specs.declared.outcome.Outcome.{Outcome}
use Rattle.job_outcome.specs.declared.outcome.Outcome.TheVariants.{Done, Full, Unfinished}
use Rattle.job_engine.specs.Searching.{GivesOutcome}

-- ---- what a run gives

-- n workers finished all goals of the query: all members, all goals, the answers to these in their order, and for each
-- the number of a worker
pub record AreDoneBy (q : Query) (capacity n : ℕ) (lists : Lists) : Type 0 where
  pub fits : FitsIn q capacity lists.members lists.goals
  pub are_answers : AreAnswers q lists.answers.list
  pub in_order : words_told lists.answers.list ≡ lists.goals
  pub one_each : length lists.who ≡ length lists.goals
  pub below : All (λ worker. worker < n) lists.who

-- the search has the answers to all goals, and its lists are such, with as many goals as are counted
pub record IsDoneBy (q : Query) (capacity n : ℕ) (searched : Searched) : Type 0 where
  pub answers : HasAnswers q (answers_of searched)
  pub lists : HasLists searched (AreDoneBy q capacity n)
  pub counted : (lists : Lists) → AreListsOf searched lists → length lists.goals ≡ goals_counted searched

-- the query has more entries than this capacity
pub record Exceeds (q : Query) (capacity told : ℕ) : Type 0 where
  pub same : told ≡ capacity
  pub more : HasMoreEntries q capacity

-- all goals are finished, or the query has more entries than the capacity
abbrev pub RunEnds : Query → (capacity n : ℕ) → Outcome → Type 0
RunEnds q capacity n (Done searched) = IsDoneBy q capacity n searched
RunEnds q capacity n (Full told) = Exceeds q capacity told
RunEnds q capacity n (Unfinished goal) = ⊥

-- ---- what a note says

-- the capacity, the number of workers, and how many goals were finished, which are all of them where the run is done
abbrev pub IsNoted : (capacity n : ℕ) → Outcome → Option (ℕ × ℕ × ℕ) → Type 0
IsNoted capacity n (Done searched) last = last ≡ Some (capacity, n, goals_counted searched)
IsNoted capacity n (Full told) last = (finished : ℕ) × (last ≡ Some (capacity, n, finished))
IsNoted capacity n (Unfinished goal) last = ⊥

-- ---- the board that was closed

-- the outcome is of a board of that many cells whose last seat has in its list what n workers finished; the note has
-- the capacity and counts the goals that were finished on the board
pub record IsRun (q : Query) (cells capacity n : ℕ) (outcome : Outcome) (note : Option (ℕ × ℕ × ℕ)) : Type 0 where
  pub place : ℕ
  pub view : Hands Rules
  pub gives : GivesOutcome q cells place view outcome
  pub ended : IsEnd outcome
  pub done : AreDoneBelow n view.done
  pub noted : note ≡ Some (capacity, n, length (finished_of gives.board))

-- a run was made, on a board of at most so many cells as the capacity
pub record IsRunWithin (q : Query) (capacity n : ℕ) (outcome : Outcome) (note : Option (ℕ × ℕ × ℕ)) : Type 0 where
  pub cells : ℕ
  pub within : cells ≤ capacity
  pub run : IsRun q cells capacity n outcome note
