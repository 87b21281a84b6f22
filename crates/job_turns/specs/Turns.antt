-- What a turn of the job whose goal was claimed does.
use Rattle.std.specs.Prelude.{ℕ}
use Rattle.query_core.specs.declared.query.Query.{Query}
use Rattle.board_rule.specs.declared.hands.Hands.{Hands}
use Rattle.goal_board.specs.Seats.{hands}
use Rattle.goal_board.specs.declared.board.Seat.{Seat}
use Rattle.goal_board.specs.declared.board.Right.{Right}
use Rattle.board_moves.specs.declared.progress.Turned.{Turned}
use Rattle.board_moves.specs.Turns.{Turns}
use Rattle.goal_space.specs.Entries.{NamesGoal}
use Rattle.goal_space.specs.declared.goals.GoalKind.{GoalKind}
use Rattle.goal_rules.specs.declared.rules.Rules.{Rules}
use Rattle.job_turns.specs.Works.{AddsWord}
use Rattle.job_turns.specs.declared.board_search.BoardSearch.{BoardSearch}

-- the turn of the right's goal; what it puts in is a child of that goal, a member that the goal's rule brings, or the
-- origin of the group that the goal explores
pub record TurnsGoal (q : Query) (capacity : ℕ) (v : Hands Rules) (right : Right) (worker : ℕ) (turned : Turned)
    (w : Hands Rules) : Type 0 where
  pub goal : GoalKind
  pub names : NamesGoal q right.goal goal
  pub turns : Turns capacity (AddsWord q goal) v right worker turned w

-- the same over the search's board: the seat before and after
abbrev pub SeatTurns : BoardSearch → Seat Rules → Right → (worker : ℕ) → Turned → Seat Rules → Type 0
SeatTurns search s right worker turned t =
    TurnsGoal search.query.now search.board.now.setup.capacity (hands s) right worker turned (hands t)
