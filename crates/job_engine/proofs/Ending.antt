-- What a run gives, over the board that its last worker closed.
use Rattle.std.proofs.Common.{◌≡◌, ℕ, ◌<◌, ◌≤◌, All, List, length, Option, Some, sym, ap, ◌∙◌, ⊎_elim, arith}
use Rattle.query_core.specs.declared.query.Query.{Query}
use Rattle.board_rule.specs.Records.{Ended}
use Rattle.board_rule.specs.Seats.{Each}
use Rattle.board_rule.specs.Looks.{ShowsFull, ShowsClosed}
use Rattle.goal_board.specs.Seats.{hands}
use Rattle.goal_board.specs.Closing.{mem_of, finished_of, ClosesWith}
use Rattle.goal_board.specs.declared.closing.ClosedBoard.{ClosedBoard}
use Rattle.goal_rules.specs.declared.rules.Rules.{Rules}
use Rattle.job_turns.specs.Searches.{rules_mean}
use Rattle.job_scheduler.specs.Crews.{AreDoneBelow}
use Rattle.job_scheduler.specs.declared.worker.Worker.{Worker}
use Rattle.job_outcome.specs.Outcomes.{ClosesSearch, AreFinishers, AreDone, IsOutcome, IsDoneCase, IsFullCase}
use Rattle.job_outcome.specs.Searched.{HasLists}
use Rattle.job_outcome.specs.declared.searched.Lists.{Lists}
use Rattle.job_outcome.specs.declared.searched.Searched.{Searched}
use Rattle.job_outcome.specs.declared.outcome.Outcome.{Outcome}
use Rattle.job_outcome.specs.declared.outcome.Outcome.TheVariants.{Done, Full, Unfinished}
use Rattle.job_engine.specs.Searching.{query_of, IsLast}
use Rattle.job_engine.specs.Runs.{AreDoneBy, RunEnds, IsNoted, IsRun}
use Rattle.job_engine.specs.declared.engine.Engine.{Engine}
use Rattle.job_engine.proofs.Closing.{closes_search, done_ends, full_ends}

-- each finished goal has one worker, which the seat has in its list
pub record AreKnown : Type 0 where
  pub each : (cell : ℕ → ℕ) (done : List Ended) (goals who : List ℕ) → AreFinishers cell done goals who
      → length who ≡ length goals
  pub below : (cell : ℕ → ℕ) (done : List Ended) (goals who : List ℕ) (n : ℕ) → AreFinishers cell done goals who
      → Each (λ (e : Ended). e.worker < n) done
      → All (λ (worker : ℕ). worker < n) who

-- what n workers finished
are_done_by : (known : AreKnown) (q : Query) (cells n : ℕ) (cell : ℕ → ℕ) (done : List Ended) → AreDoneBelow n done
    → (lists : Lists) → AreDone q cells cell done lists → AreDoneBy q cells n lists
are_done_by known q cells n cell done below lists are = record {
  fits = are.fits;
  are_answers = are.are_answers;
  in_order = are.in_order;
  one_each = known.each cell done lists.goals lists.who are.finishers;
  below = known.below cell done lists.goals lists.who n are.finishers below;
}

-- what follows from a fact of lists
lists_then : (searched : Searched) (Fact Then : Lists → Type 0) → ((lists : Lists) → Fact lists → Then lists)
    → HasLists searched Fact → HasLists searched Then
lists_then searched Fact Then follows has =
    record { lists = has.lists; are = has.are; each = λ lists are. follows lists (has.each lists are) }

-- what a run gives, in the words of a run
pub run_ends : (known : AreKnown) (q : Query) (cells capacity n : ℕ) (outcome : Outcome) (last : Option (ℕ × ℕ × ℕ))
    → IsRun q cells capacity n outcome last → RunEnds q cells n outcome
run_ends known q cells capacity n (Done searched) last run =
    let whole = run.gives.is.2 in
    let cell = (mem_of searched.board).cell in
    record {
      answers = whole.answers;
      lists = lists_then searched (AreDone q cells cell run.view.done) (AreDoneBy q cells n)
          (are_done_by known q cells n cell run.view.done run.done) whole.lists;
      counted = whole.counted;
    }
run_ends known q cells capacity n (Full told) last run =
    record { same = run.gives.is.same; more = run.gives.is.more }
run_ends known q cells capacity n (Unfinished goal) last run = absurd run.ended

-- the note counts all goals where all are finished
pub is_noted : (q : Query) (cells capacity n : ℕ) (outcome : Outcome) (last : Option (ℕ × ℕ × ℕ))
    → IsRun q cells capacity n outcome last → IsNoted capacity n outcome last
is_noted q cells capacity n (Done searched) last run =
    run.noted ∙ ap (λ (b : ClosedBoard). Some (capacity, n, length (finished_of b))) (sym run.gives.is.0)
is_noted q cells capacity n (Full told) last run = (length (finished_of run.gives.board), run.noted)
is_noted q cells capacity n (Unfinished goal) last run = absurd run.ended

-- lists that fit in fewer cells fit in the whole capacity
fit_within : (q : Query) (cells capacity n : ℕ) → cells ≤ capacity → (lists : Lists) → AreDoneBy q cells n lists
    → AreDoneBy q capacity n lists
fit_within q cells capacity n within lists are =
    let few = are.fits.few in
    record {
      fits = record { closure = are.fits.closure; all_goals = are.fits.all_goals; few = omega (arith, few, within) };
      are_answers = are.are_answers;
      in_order = are.in_order;
      one_each = are.one_each;
      below = are.below;
    }

-- a run that finished all goals on fewer cells is one of the whole capacity
pub ends_within : (q : Query) (cells capacity n : ℕ) → cells ≤ capacity → (outcome : Outcome) → IsDoneCase outcome
    → RunEnds q cells n outcome → RunEnds q capacity n outcome
ends_within q cells capacity n within (Done searched) done ends = record {
  answers = ends.answers;
  lists = lists_then searched (AreDoneBy q cells n) (AreDoneBy q capacity n) (fit_within q cells capacity n within)
      ends.lists;
  counted = ends.counted;
}
ends_within q cells capacity n within (Full told) done ends = absurd done
ends_within q cells capacity n within (Unfinished goal) done ends = absurd done

module _ (e : Engine) (n : ℕ) (w : Worker Rules) (is_last : IsLast e n w) (board : ClosedBoard) where
  -- the last worker of a crew closed the board of the query's search
  pub last_closes : ClosesWith rules_mean e.scheduler.board.setup.rules e.scheduler.board.setup.capacity
      (hands w.seat) board
      → ClosesSearch (query_of e) e.cells e.scheduler.root (hands w.seat) board
  last_closes closes = closes_search e (hands w.seat) board is_last.its.its.its.root_shown.stands closes

  -- it has seen the end, so this is what the run gave
  pub last_run : (outcome : Outcome) → ClosesSearch (query_of e) e.cells e.scheduler.root (hands w.seat) board
      → IsOutcome (query_of e) e.cells (hands w.seat).done board outcome
      → (ShowsClosed (hands w.seat).looks e.scheduler.root → IsDoneCase outcome)
      → (ShowsFull (hands w.seat).looks → IsFullCase outcome)
      → (finished : ℕ) → finished ≡ length (finished_of board)
      → IsRun (query_of e) e.cells e.capacity n outcome (Some (e.capacity, n, finished))
  last_run outcome its is if_done if_full finished counted = record {
    place = e.scheduler.root;
    view = hands w.seat;
    gives = record { board = board; its = its; is = is };
    ended = ⊎_elim (λ (t : ShowsClosed (hands w.seat).looks e.scheduler.root). done_ends outcome (if_done t))
        (λ (t : ShowsFull (hands w.seat).looks). full_ends outcome (if_full t)) is_last.ended;
    done = is_last.its.done;
    noted = ap (λ (k : ℕ). Some (e.capacity, n, k)) counted;
  }
