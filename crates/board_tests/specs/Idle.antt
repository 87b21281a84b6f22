-- What the tests leave of a seat between two of their steps.
use Rattle.std.specs.Prelude.{◌≡◌, ℕ, List, []}
use Rattle.board_rule.specs.Meaning.{Meaning}
use Rattle.board_rule.specs.declared.hands.Hands.{Hands}
use Rattle.goal_board.specs.Calls.{seen}
use Rattle.goal_board.specs.Seats.{IsSeatOf, hands}
use Rattle.goal_board.specs.declared.board.Board.{Board}
use Rattle.goal_board.specs.declared.board.Seat.{Seat}
use Rattle.board_tests.specs.Numbers.{numbers}
use Rattle.board_tests.specs.declared.numbers.Numbers.{Numbers}

-- the seat is one of a board of the words from 1 to 4, and holds no right
pub record IsIdleAt (board : Board Numbers) (seat : Seat Numbers) : Type 0 where
  pub of_board : IsSeatOf (λ r. numbers r.limit) board seat
  pub limit : board.setup.rules.limit ≡ 4
  pub rights : (hands seat).rights ≡ []

-- the new seat is idle too, and has as many parts
pub record StaysIdle (board : Board Numbers) (old new : Seat Numbers) : Type 0 where
  pub idle : IsIdleAt board new
  pub parts : (hands new).parts ≡ (hands old).parts

-- the new seat is one of the board, with the rights and the parts of the old one
pub record KeepsSeat {R : Type 0} (meaning_of : R → Meaning) (board : Board R) (old new : Seat R) : Type 0 where
  pub of_board : IsSeatOf meaning_of board new
  pub rights : (hands new).rights ≡ (hands old).rights
  pub parts : (hands new).parts ≡ (hands old).parts

-- the new hands are the old ones with further looks
abbrev pub HasLooked : {R : Type 0} → Hands R → Hands R → Type 0
HasLooked old new = (more : List (ℕ × ℕ)) × (new ≡ seen more old)
