-- What a search gives.
use Rattle.std.specs.Prelude.{◌≡◌, ℕ, ◌+◌, ◌<◌, ◌≤◌, true, false, nat_eq, List, length, Some, ⊤}
use Rattle.std.specs.List.{All, AllZip, IsDistinct}
use Rattle.query_core.specs.declared.query.Query.{Query}
use Rattle.xform_rules.specs.Closure.{IsClosureOf}
use Rattle.goal_space.specs.Words.{goal_word}
use Rattle.goal_space.specs.Goals.{root_goal_of}
use Rattle.goal_space.specs.Entries.{IsEntry, IsGoalWord}
use Rattle.goal_space.specs.Answers.{AreAnswers, words_told}
use Rattle.plan_report.specs.Sources.{HasAnswers}
use Rattle.goal_children.specs.Listed.{AreGoalsOf}
use Rattle.board_rule.specs.Records.{Ended}
use Rattle.board_rule.specs.Words.{cell_word}
use Rattle.board_rule.specs.Looks.{Looked, ShowsClosed, ShowsFull}
use Rattle.board_rule.specs.Seats.{Among}
use Rattle.board_rule.specs.declared.hands.Hands.{Hands}
use Rattle.goal_board.specs.Closed.{IsFirstReady}
use Rattle.goal_board.specs.Closing.{mem_of, is_full, HasFinished, ClosesWith}
use Rattle.goal_board.specs.declared.closing.ClosedBoard.{ClosedBoard}
use Rattle.goal_rules.specs.Meaning.{meaning_of}
use Rattle.goal_rules.specs.declared.rules.Rules.{Rules}
use Rattle.job_outcome.specs.Searched.{answers_of, goals_counted, AreListsOf, HasLists}
use Rattle.job_outcome.specs.declared.searched.Lists.{Lists}
use Rattle.job_outcome.specs.declared.searched.Searched.{Searched}
use Rattle.job_outcome.specs.declared.outcome.Outcome.{Outcome}
use Rattle.job_outcome.specs.declared.outcome.Outcome.TheVariants.{Done, Full, Unfinished}

-- ---- how many entries a query has

-- different entries that are more than the capacity
pub record HasMoreEntries (q : Query) (capacity : ℕ) : Type 0 where
  pub entries : List ℕ
  pub enter : All (IsEntry q) entries
  pub differ : IsDistinct nat_eq entries
  pub more : capacity < length entries

-- the lists of all members and of all goals, together not more than the capacity
pub record FitsIn (q : Query) (capacity : ℕ) (members goals : List ℕ) : Type 0 where
  pub closure : IsClosureOf q members
  pub all_goals : AreGoalsOf q goals
  pub few : length members + length goals ≤ capacity

-- ---- the board of a query's search

-- a seat with these hands closed the board of the query's search, which has that many cells; its looks show the root's
-- goal
pub record ClosesSearch (q : Query) (capacity place : ℕ) (v : Hands Rules) (board : ClosedBoard) : Type 0 where
  pub rules : Rules
  pub its_query : rules.query.now ≡ q
  pub closes : ClosesWith (λ (r : Rules). meaning_of r.query.now) rules capacity v board
  pub near : place < capacity
  pub root : Looked v.looks (cell_word place) (goal_word (root_goal_of q))

-- the root's goal is finished
abbrev pub HasFinishedRoot : Query → ClosedBoard → Type 0
HasFinishedRoot q board = HasFinished board (goal_word (root_goal_of q))

-- ---- outcomes

-- the worker finished the goal that stands at a place
pub record IsFinisher (cell : ℕ → ℕ) (done : List Ended) (goal worker : ℕ) : Type 0 where
  pub ended : Ended
  pub among : Among done ended
  pub its_goal : cell ended.place ≡ goal
  pub its_worker : ended.worker ≡ worker
  pub few : worker < 64

-- these workers finished these goals, place by place
abbrev pub AreFinishers : (cell : ℕ → ℕ) → (done : List Ended) → (goals who : List ℕ) → Type 0
AreFinishers cell done = AllZip (IsFinisher cell done)

-- all members, all goals, which are as many as fit, the answers to all goals and who finished them, in one order
pub record AreDone (q : Query) (capacity : ℕ) (cell : ℕ → ℕ) (done : List Ended) (lists : Lists) : Type 0 where
  pub fits : FitsIn q capacity lists.members lists.goals
  pub are_answers : AreAnswers q lists.answers.list
  pub in_order : words_told lists.answers.list ≡ lists.goals
  pub finishers : AreFinishers cell done lists.goals lists.who

-- the search has the answers to all goals, and its lists are such, with as many goals as are counted
pub record IsDone (q : Query) (capacity : ℕ) (done : List Ended) (searched : Searched) : Type 0 where
  pub answers : HasAnswers q (answers_of searched)
  pub lists : HasLists searched (AreDone q capacity (mem_of searched.board).cell done)
  pub counted : (lists : Lists) → AreListsOf searched lists → length lists.goals ≡ goals_counted searched

-- the root's goal is finished, and the board wasn't full
pub record IsFinished (q : Query) (board : ClosedBoard) : Type 0 where
  pub root : HasFinishedRoot q board
  pub not_full : is_full board ≡ false

-- the root's goal isn't finished, and the board was full: the query has more entries than cells
pub record IsFullFor (q : Query) (capacity : ℕ) (board : ClosedBoard) (told : ℕ) : Type 0 where
  pub open_root : HasFinishedRoot q board → ⊥
  pub full : is_full board ≡ true
  pub same : told ≡ capacity
  pub more : HasMoreEntries q capacity

-- the root's goal isn't finished, the board wasn't full, and this goal is ready
pub record IsUnfinished (q : Query) (board : ClosedBoard) (goal : ℕ) : Type 0 where
  pub open_root : HasFinishedRoot q board → ⊥
  pub not_full : is_full board ≡ false
  pub is_ready : IsFirstReady (meaning_of q) (mem_of board) board.capacity (Some goal)
  pub is_goal : IsGoalWord q goal

-- what the search gave, whose board was this: it was full exactly where this says so
abbrev pub IsOutcome : Query → (capacity : ℕ) → (done : List Ended) → ClosedBoard → Outcome → Type 0
IsOutcome q capacity done board (Done searched) =
    (searched.board ≡ board) × IsFinished q board × IsDone q capacity done searched
IsOutcome q capacity done board (Full told) = IsFullFor q capacity board told
IsOutcome q capacity done board (Unfinished goal) = IsUnfinished q board goal

-- all goals are finished
abbrev pub IsDoneCase : Outcome → Type 0
IsDoneCase (Done searched) = ⊤
IsDoneCase (Full told) = ⊥
IsDoneCase (Unfinished goal) = ⊥

-- the board was full
abbrev pub IsFullCase : Outcome → Type 0
IsFullCase (Done searched) = ⊥
IsFullCase (Full told) = ⊤
IsFullCase (Unfinished goal) = ⊥

-- nothing is left to do
abbrev pub IsEnd : Outcome → Type 0
IsEnd (Done searched) = ⊤
IsEnd (Full told) = ⊤
IsEnd (Unfinished goal) = ⊥

-- ---- what is told of a board

-- some seat closed the board of the query's search
abbrev pub IsSearchBoard : Query → (capacity : ℕ) → ClosedBoard → Type 0
IsSearchBoard q capacity board = (place : ℕ) × (v : Hands Rules) × ClosesSearch q capacity place v board

-- by whichever seat closed it: what the search gave, and what that seat saw of it
pub record TellsOutcome (q : Query) (capacity : ℕ) (board : ClosedBoard) (gave : Outcome) : Type 0 where
  pub outcome : (place : ℕ) (v : Hands Rules) → ClosesSearch q capacity place v board
      → IsOutcome q capacity v.done board gave
  pub finished : (place : ℕ) (v : Hands Rules) → ClosesSearch q capacity place v board → ShowsClosed v.looks place
      → IsDoneCase gave
  pub full : (place : ℕ) (v : Hands Rules) → ClosesSearch q capacity place v board → ShowsFull v.looks
      → IsFullCase gave
