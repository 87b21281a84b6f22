-- What a turn's calls do over a board and a seat of it, before and after.
use Rattle.std.specs.Prelude.{ℕ, Option, Result}
use Rattle.board_rule.specs.Meaning.{Meaning}
use Rattle.goal_board.specs.declared.board.Board.{Board}
use Rattle.goal_board.specs.declared.board.Seat.{Seat}
use Rattle.goal_board.specs.declared.board.Right.{Right}
use Rattle.goal_board.specs.Seats.{hands}
use Rattle.board_moves.specs.declared.progress.Progress.{Progress}
use Rattle.board_moves.specs.declared.progress.Turned.{Turned}
use Rattle.board_moves.specs.declared.settled.Seen.{Seen}
use Rattle.board_moves.specs.declared.settled.Settled.{Settled}
use Rattle.board_moves.specs.Moves.{Awaits}
use Rattle.board_moves.specs.Turns.{MayFinish, EndsTurn}
use Rattle.board_moves.specs.Collects.{Settles}
use Rattle.board_moves.specs.Passes.{SeesGoal, Sees, CountsAgain, Collects, AwaitsFound}

module _ {R : Type 0} (meaning_of : R → Meaning) (b : Board R) (s : Seat R) where
  -- what came of one child
  abbrev pub SeatAwaitsChild : (before : Right) → (child : ℕ) → Progress → Seat R → Right → Type 0
  SeatAwaitsChild before child progress t after =
      Awaits (meaning_of b.setup.rules) b.setup.capacity (hands s) before child progress (hands t) after

  -- what came of the goals of those of these members that are in cells
  abbrev pub SeatAwaitsFound : (Has : ℕ → Type 0) → (ℕ → ℕ) → (before : Right) → Option ℕ → Seat R → Right → Type 0
  SeatAwaitsFound Has goal_of before found t after =
      AwaitsFound (meaning_of b.setup.rules) b.setup.capacity (hands s) Has goal_of before found (hands t) after

  -- a goal may be finished where it is complete
  abbrev pub SeatIsReady : Right → Progress → Type 0
  SeatIsReady right progress = MayFinish (meaning_of b.setup.rules) b.setup.capacity (hands s).looks right progress

  -- a goal that is complete was finished, and another was suspended
  abbrev pub SeatEnds : (place worker : ℕ) → Progress → Turned → Seat R → Type 0
  SeatEnds place worker progress turned t = EndsTurn b.setup.capacity (hands s) place worker progress turned (hands t)

  -- whether the goal is finished
  abbrev pub SeatSeesGoal : (goal : ℕ) → Seen → Seat R → Type 0
  SeatSeesGoal goal seen t = SeesGoal (meaning_of b.setup.rules) b.setup.capacity (hands s) goal seen (hands t)

  -- a pass that found so many of the words
  abbrev pub SeatCounts : (Has : ℕ → Type 0) → ℕ → Seat R → Type 0
  SeatCounts Has number t = CountsAgain (meaning_of b.setup.rules) b.setup.capacity (hands s) Has number (hands t)

  module _ (Has : ℕ → Type 0) (goal_of : ℕ → ℕ) where
    -- whether the word is in a cell, and its goal finished
    abbrev pub SeatSees : (word : ℕ) → Seen → Seat R → Type 0
    SeatSees word seen t = Sees (meaning_of b.setup.rules) b.setup.capacity (hands s) Has goal_of word seen (hands t)

    -- the first pass of the double collection
    abbrev pub SeatCollects : Result ℕ ℕ → Seat R → Type 0
    SeatCollects found t = Collects (meaning_of b.setup.rules) b.setup.capacity (hands s) Has goal_of found (hands t)

    -- the double collection
    abbrev pub SeatCollectsTwice : (explored : ℕ) → Settled → Seat R → Type 0
    SeatCollectsTwice explored settled t =
        Settles (meaning_of b.setup.rules) b.setup.capacity Has goal_of (hands s) explored settled (hands t)
