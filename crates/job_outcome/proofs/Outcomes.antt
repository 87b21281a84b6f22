-- The outcome by its three cases.
use Rattle.std.proofs.Common.{◌≡◌, ℕ, ◌<◌, nat_eq, true, false, List, ◌∷◌, None, Some, refl, sym, subst, arith}
use Rattle.std.proofs.Common.{leb-true, ne_eqb}
use Rattle.std.proofs.Common.{◌∙◌}
use Rattle.std.proofs.lemmas.Bool.{false_from_ne_true}
use Rattle.std.proofs.lemmas.List.Elements.{All-cons, recursion_from_All}
use Rattle.std.proofs.lemmas.Map.Keys.{IsDistinct-cons}
use Rattle.query_core.specs.Expressions.{word_of}
use Rattle.query_core.specs.Goals.{goal_bit, FitsExpr}
use Rattle.query_core.specs.declared.query.Query.{Query}
use Rattle.query_core.specs.declared.expressions.ExprParts.{ExprParts}
use Rattle.xform_rules.specs.Closure.{IsMember}
use Rattle.best_answers.specs.Laws.{BestsFit}
use Rattle.goal_space.specs.Laws.{GoalRequestsFit, MembersAreAsked}
use Rattle.goal_space.specs.Entries.{IsEntry, IsGoalWord}
use Rattle.goal_rules.specs.Meaning.{meaning_of}
use Rattle.goal_rules.specs.declared.rules.Rules.{Rules}
use Rattle.board_rule.specs.Records.{Ended}
use Rattle.board_rule.specs.Looks.{ShowsClosed}
use Rattle.board_rule.specs.declared.hands.Hands.{Hands}
use Rattle.board_rule.specs.Words.{Mem}
use Rattle.goal_board.specs.Closed.{cells_below, IsFirstReady}
use Rattle.goal_board.specs.Closing.{mem_of, is_full}
use Rattle.goal_board.specs.declared.closing.ClosedBoard.{ClosedBoard}
use Rattle.job_outcome.specs.Outcomes.{ClosesSearch, HasFinishedRoot, HasMoreEntries, FitsIn, IsFinished, IsFullFor}
use Rattle.job_outcome.specs.Outcomes.{IsOutcome, IsUnfinished, IsSearchBoard, TellsOutcome}
use Rattle.job_outcome.specs.declared.searched.Searched.{Searched}
use Rattle.job_outcome.specs.declared.outcome.Outcome.TheVariants.{Done, Full, Unfinished}
use Rattle.job_outcome.proofs.Places.{all_cells, cells_differ}
use Rattle.job_outcome.proofs.Finishing.{goal_entry}
use Rattle.job_outcome.proofs.Counting.{cells_all, fit_or_not}
use Rattle.job_outcome.proofs.Reading.{ReadsSearch, finished_root, none_left, reads_search, shown_closed}
use Rattle.job_outcome.proofs.Ending.{is_done}

module _ (q : Query) (capacity place : ℕ) (done : List Ended) (board : ClosedBoard)
    (its : ReadsSearch q capacity place done board) where
  abbrev m : Mem
  m = mem_of board

  -- the entry that stands in no cell, and those that stand in all
  more_entries : is_full board ≡ true → HasMoreEntries q capacity
  more_entries full =
      let filled = its.full full in
      let (word, enters, nowhere) = filled.left_out in
      let cells = cells_below m capacity in
      record {
        entries = word ∷ cells;
        enter = All-cons (IsEntry q) word cells enters (all_cells m (IsEntry q) capacity its.searched.cells.enter);
        differ = IsDistinct-cons nat_eq word cells
            (recursion_from_All (λ x. nat_eq word x ≡ false) cells
            (all_cells m (λ x. nat_eq word x ≡ false) capacity
            (λ p near taken. ne_eqb word (m.cell p) (λ same. nowhere p near (sym same)))))
            (cells_differ m capacity its.searched.cells.are_set capacity (omega arith));
        more = let all = cells_all m capacity filled.taken capacity (omega arith) in omega (arith, all);
      }

  pub is_full_for : (HasFinishedRoot q board → ⊥) → is_full board ≡ true → IsFullFor q capacity board capacity
  is_full_for open_root full = record { open_root = open_root; full = full; same = refl; more = more_entries full }

  -- the goal that is ready stands in a cell, so it is an entry
  pub is_unfinished : ((e : ExprParts) → IsMember q e → FitsExpr (word_of e)) → (HasFinishedRoot q board → ⊥)
      → is_full board ≡ false → (goal : ℕ) → IsFirstReady (meaning_of q) m board.capacity (Some goal)
      → IsUnfinished q board goal
  is_unfinished small open_root not_full goal ready =
      let (p, near, at, is_ready, first) = ready in
      record {
        open_root = open_root;
        not_full = not_full;
        is_ready = ready;
        is_goal = subst (IsGoalWord q) at (goal_entry q (m.cell p) small
            (its.searched.cells.enter p (subst (λ n. p < n) its.same_capacity near) is_ready.some_goal)
            (leb-true goal_bit (m.cell p) is_ready.is_goal));
      }

  -- entries that fit are not more than the cells
  is_finished : HasFinishedRoot q board → (members goals : List ℕ) → FitsIn q capacity members goals
      → IsFinished q board
  is_finished has members goals fits = record {
    root = has;
    not_full = false_from_ne_true (is_full board) (λ full. fit_or_not q capacity members goals fits (more_entries full));
  }

-- the board is that of a finished search where the root's goal is finished
pub is_done_outcome : (q : Query) (capacity place : ℕ) (done : List Ended) (searched : Searched)
    → ReadsSearch q capacity place done searched.board → HasFinishedRoot q searched.board
    → BestsFit q → GoalRequestsFit q → MembersAreAsked q
    → ((e : ExprParts) → IsMember q e → FitsExpr (word_of e))
    → IsOutcome q capacity done searched.board (Done searched)
is_done_outcome q capacity place done searched its has fit requests asked small =
    let is = is_done q capacity place done searched its has fit requests asked small in
    let there = is.lists.lists in
    let fits = (is.lists.each there is.lists.are).fits in
    (refl, is_finished q capacity place done searched.board its has there.members there.goals fits, is)

-- ---- what is told of a board, by whichever seat closed it

module _ (q : Query) (capacity : ℕ) where
  -- the root's goal is finished
  pub tells_done : (searched : Searched) → HasFinishedRoot q searched.board → BestsFit q → GoalRequestsFit q
      → MembersAreAsked q → ((e : ExprParts) → IsMember q e → FitsExpr (word_of e))
      → TellsOutcome q capacity searched.board (Done searched)
  tells_done searched has fit requests asked small = record {
    outcome = λ place v its. is_done_outcome q capacity place v.done searched
        (reads_search q capacity place v searched.board its) has fit requests asked small;
    finished = λ place v its shown. tt;
    full = λ place v its shown. absurd (let is = is_done_outcome q capacity place v.done searched
        (reads_search q capacity place v searched.board its) has fit requests asked small in
        let no : false ≡ true = sym is.1.not_full ∙ its.closes.filled shown in cc);
  }

  module _ (board : ClosedBoard) (open_root : HasFinishedRoot q board → ⊥) where
    -- a head that was seen closed is that of a finished goal
    not_shown : (place : ℕ) (v : Hands Rules) → ClosesSearch q capacity place v board → ShowsClosed v.looks place → ⊥
    not_shown place v its shown =
        open_root (finished_root q capacity place v.done board (reads_search q capacity place v board its)
        (shown_closed q capacity place v board its shown))

    -- the board was full
    pub tells_full : is_full board ≡ true → TellsOutcome q capacity board (Full capacity)
    tells_full full = record {
      outcome = λ place v its. is_full_for q capacity place v.done board (reads_search q capacity place v board its)
          open_root full;
      finished = λ place v its shown. absurd (not_shown place v its shown);
      full = λ place v its shown. tt;
    }

    -- this goal is ready
    pub tells_unfinished : is_full board ≡ false → ((e : ExprParts) → IsMember q e → FitsExpr (word_of e))
        → (goal : ℕ) → IsFirstReady (meaning_of q) (mem_of board) board.capacity (Some goal)
        → TellsOutcome q capacity board (Unfinished goal)
    tells_unfinished not_full small goal ready = record {
      outcome = λ place v its. is_unfinished q capacity place v.done board (reads_search q capacity place v board its)
          small open_root not_full goal ready;
      finished = λ place v its shown. absurd (not_shown place v its shown);
      full = λ place v its shown. absurd (let filled = its.closes.filled shown in
          let no : false ≡ true = sym not_full ∙ filled in cc);
    }

-- where no goal is ready, the root's goal is finished
pub some_left : (q : Query) (capacity : ℕ) (board : ClosedBoard) → IsSearchBoard q capacity board
    → (HasFinishedRoot q board → ⊥) → IsFirstReady (meaning_of q) (mem_of board) board.capacity None → ⊥
some_left q capacity board (place, v, its) open_root none =
    open_root (none_left q capacity place v.done board (reads_search q capacity place v board its) none)
