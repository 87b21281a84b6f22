-- Seats of a board, and their hands.
use Rattle.std.specs.Prelude.{◌≡◌, ◌≢◌, ℕ, ◌<◌, [], false, Option, None, Some}
use Rattle.board_rule.specs.Meaning.{Meaning}
use Rattle.board_rule.specs.Records.{Pending}
use Rattle.board_rule.specs.Words.{cell_word}
use Rattle.board_rule.specs.Looks.{Looked}
use Rattle.board_rule.specs.declared.hands.Hands.{Hands}
use Rattle.goal_board.specs.Alone.{KeepsAll}
use Rattle.goal_board.specs.declared.board.Seat.{Seat}
use Rattle.goal_board.specs.declared.board.Board.{Board}

abbrev pub hands : {R : Type 0} → Seat R → Hands R
hands s = s.seat.me.0

-- the wait that a seat puts in
abbrev pub pending_or : Option Pending → Pending
pending_or None = record { waiter = 0; child = 0; seen = None; linked = false }
pending_or (Some x) = x

abbrev pub the_wait : {R : Type 0} → Hands R → Pending
the_wait v = pending_or v.pending

-- hands over these rules and that many cells, whose looks found entries alone, and which keep all words where the seat
-- is alone
pub record AreHandsOver {R : Type 0} (meaning_of : R → Meaning) (rules : R) (capacity : ℕ) (v : Hands R) : Type 0 where
  pub its_rules : v.rules ≡ Some rules
  pub its_capacity : v.capacity ≡ capacity
  pub entries : (place word : ℕ) → place < capacity → Looked v.looks (cell_word place) word → word ≢ 0
      → (meaning_of rules).entry word
  pub all : KeepsAll capacity v

-- between two calls a seat puts no wait in, and has no list half walked
pub record IsFree {R : Type 0} (v : Hands R) : Type 0 where
  pub no_wait : v.pending ≡ None
  pub no_walk : v.walk.waiters ≡ []

-- the seat is one of this board
pub record IsSeatOf {R : Type 0} (meaning_of : R → Meaning) (b : Board R) (s : Seat R) : Type 0 where
  pub same_table : s.seat.table_id ≡ b.table.shared.table_id
  pub over : AreHandsOver meaning_of b.setup.rules b.setup.capacity (hands s)
  pub free : IsFree (hands s)

-- the seat is one of this board, in the middle of a call
pub record IsInCall {R : Type 0} (meaning_of : R → Meaning) (b : Board R) (s : Seat R) : Type 0 where
  pub same_table : s.seat.table_id ≡ b.table.shared.table_id
  pub over : AreHandsOver meaning_of b.setup.rules b.setup.capacity (hands s)
