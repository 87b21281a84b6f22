-- What a call asks for, finds and does, over a board and a seat of it before and after.
use Rattle.std.specs.Prelude.{ℕ, Option, Bool}
use Rattle.board_rule.specs.Meaning.{Meaning}
use Rattle.board_rule.specs.Looks.{ShowsEntry, ShowsPromise, ShowsClosed}
use Rattle.board_rule.specs.May.{MayPut, MayFill, MayClaim, MayClose}
use Rattle.goal_board.specs.declared.board.Board.{Board}
use Rattle.goal_board.specs.declared.board.Seat.{Seat}
use Rattle.goal_board.specs.declared.board.Right.{Right}
use Rattle.goal_board.specs.declared.answers.Answer.{Answer}
use Rattle.goal_board.specs.declared.answers.Awaited.{Awaited}
use Rattle.goal_board.specs.declared.answers.Woken.{Woken}
use Rattle.goal_board.specs.Seats.{hands}
use Rattle.goal_board.specs.Calls.{Reads, ReadsFull}
use Rattle.goal_board.specs.RightCalls.{IsRightOf, KeepsRights, KeepsOthers, SeesChild, Claims, WaitsFor, FinishesGoal}

-- one of the seat's looks found the head at the place closed
abbrev pub HasSeenClosed : {R : Type 0} → Seat R → ℕ → Type 0
HasSeenClosed s at = ShowsClosed (hands s).looks at

module _ {R : Type 0} (meaning_of : R → Meaning) (b : Board R) (s : Seat R) where
  -- the seat has the right
  abbrev pub HasRightTo : Right → Type 0
  HasRightTo right = IsRightOf (meaning_of b.setup.rules) b.setup.capacity (hands s) right

  -- its looks show the entry
  abbrev pub HasSeenEntry : ℕ → Type 0
  HasSeenEntry word = ShowsEntry (meaning_of b.setup.rules) b.setup.capacity (hands s).looks word

  -- its looks show the goal's promise
  abbrev pub HasSeenPromise : ℕ → Type 0
  HasSeenPromise goal = ShowsPromise (meaning_of b.setup.rules) b.setup.capacity (hands s).looks goal

  -- one of its looks found a child of the goal in the cell
  abbrev pub HasSeenChild : (goal at : ℕ) → Type 0
  HasSeenChild goal at = SeesChild (meaning_of b.setup.rules) (hands s).looks goal at

  -- it may put the word into the cell
  abbrev pub SeatMayPut : (place word : ℕ) → Type 0
  SeatMayPut place word = MayPut (meaning_of b.setup.rules) b.setup.capacity (hands s) place word

  -- it may set the full word
  abbrev pub SeatMayFill : Type 0
  SeatMayFill = MayFill (meaning_of b.setup.rules) b.setup.capacity (hands s)

  -- it may claim the goal at the place
  abbrev pub SeatMayClaim : (place : ℕ) → Type 0
  SeatMayClaim place = MayClaim (meaning_of b.setup.rules) b.setup.capacity (hands s) place

  -- it may close the head of the goal at the place, whose answer it stored
  abbrev pub SeatMayClose : (place worker cost node : ℕ) → Type 0
  SeatMayClose place worker cost node =
      MayClose (meaning_of b.setup.rules) b.setup.capacity (hands s) place worker cost node

  -- each of its rights is one still
  abbrev pub SeatKeepsRights : Seat R → Type 0
  SeatKeepsRights t = KeepsRights (meaning_of b.setup.rules) b.setup.capacity (hands s) (hands t)

  -- each of its rights is one still, but for that to the goal at the place
  abbrev pub SeatKeepsOthers : (place : ℕ) → Seat R → Type 0
  SeatKeepsOthers place t = KeepsOthers (meaning_of b.setup.rules) b.setup.capacity place (hands s) (hands t)

  -- it claimed the goal at the place, or found it busy
  abbrev pub SeatClaims : (at : ℕ) → Option Right → Seat R → Type 0
  SeatClaims at found t = Claims (meaning_of b.setup.rules) b.setup.capacity (hands s) at found (hands t)

  -- the goal at the place waits for the child, or the child was found finished
  abbrev pub SeatWaitsFor : (place at : ℕ) → Awaited → Seat R → Type 0
  SeatWaitsFor place at answer t = WaitsFor b.setup.capacity (hands s) place at answer (hands t)

  -- it finished the goal at the place with the answer, and woke the goals that wait for it
  abbrev pub SeatFinishes : (place worker : ℕ) → Answer → Woken → Seat R → Type 0
  SeatFinishes place worker answer woken t =
      FinishesGoal b.setup.capacity (hands s) place worker answer.cost answer.node woken (hands t)

  -- it read the answer at the place, or found the goal open
  abbrev pub SeatReads : (at : ℕ) → Option Answer → Seat R → Type 0
  SeatReads at found t = Reads (meaning_of b.setup.rules) b.setup.capacity (hands s) at found (hands t)

  -- it looked at the full word
  abbrev pub SeatReadsFull : Bool → Seat R → Type 0
  SeatReadsFull full t = ReadsFull (meaning_of b.setup.rules) b.setup.capacity (hands s) full (hands t)
