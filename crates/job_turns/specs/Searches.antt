-- A search on a board, and what changes there while a turn lasts: the seat, its job and the hints.
use Rattle.std.specs.Prelude.{◌≡◌, ℕ}
use Rattle.request_props.specs.Numbered.{IsProps}
use Rattle.board_rule.specs.Meaning.{Meaning}
use Rattle.goal_board.specs.declared.board.Board.{Board}
use Rattle.goal_board.specs.declared.board.Seat.{Seat}
use Rattle.goal_board.specs.declared.board.Right.{Right}
use Rattle.goal_board.specs.Seats.{IsSeatOf, hands}
use Rattle.goal_board.specs.RightCalls.{IsRightOf}
use Rattle.board_moves.specs.declared.job.Job.{Job}
use Rattle.goal_rules.specs.declared.rules.Rules.{Rules}
use Rattle.goal_rules.specs.Meaning.{meaning_of}
use Rattle.job_turns.specs.declared.board_search.BoardSearch.{BoardSearch}
use Rattle.job_turns.specs.declared.job_turn.JobTurn.{JobTurn}

-- what the rules of a search mean
abbrev pub rules_mean : Rules → Meaning
rules_mean rules = meaning_of rules.query.now

-- the props are those of the query, and so are the board's rules
pub record IsBoardSearch (search : BoardSearch) : Type 0 where
  pub props : IsProps search.query.now search.props.now
  pub same_query : search.board.now.setup.rules.query.now ≡ search.query.now

-- the seat is one of this board
abbrev pub IsSeat : Board Rules → Seat Rules → Type 0
IsSeat b s = IsSeatOf rules_mean b s

-- the seat has the right
abbrev pub HasRight : Board Rules → Seat Rules → Right → Type 0
HasRight b s right = IsRightOf (rules_mean b.setup.rules) b.setup.capacity (hands s) right

-- the seat is one of the search's board, and has the right of the job
pub record HasJob (search : BoardSearch) (s : Seat Rules) (job : Job) : Type 0 where
  pub its : IsBoardSearch search
  pub seat : IsSeat search.board.now s
  pub right : HasRight search.board.now s job.right

-- the seat has the job of the turn, and the hints have the board's capacity
pub record IsAtWork {H : Type 0} (search : BoardSearch) (turn : JobTurn H) (capacity : ℕ) : Type 0 where
  pub has_job : HasJob search turn.seat.now turn.job
  pub hints : capacity ≡ search.board.now.setup.capacity

-- the same after a call, with the same seat and the same hints
pub record StaysAtWork {H : Type 0} (search : BoardSearch) (before after : JobTurn H) (capacity : ℕ) : Type 0 where
  pub still : IsAtWork search after capacity
  pub same_seat : after.seat.ghost_name ≡ before.seat.ghost_name
  pub same_hints : after.hints.ghost_name ≡ before.hints.ghost_name
