-- Workers of a board, and a seat that only looks.
use Rattle.std.specs.Prelude.{◌≡◌, ◌≢◌, ℕ, ◌<◌, ◌≤◌, [], List, IsTrue}
use Rattle.board_rule.specs.Meaning.{Meaning}
use Rattle.board_rule.specs.Words.{cell_word}
use Rattle.board_rule.specs.Looks.{Looked}
use Rattle.board_rule.specs.declared.hands.Hands.{Hands}
use Rattle.goal_board.specs.declared.board.Board.{Board}
use Rattle.goal_board.specs.Seats.{IsSeatOf, hands}
use Rattle.goal_board.specs.Calls.{seen, AgreesAlone}
use Rattle.job_scheduler.specs.declared.worker.Worker.{Worker}

-- one of the looks found this goal in the cell
pub record ShowsGoal (meaning : Meaning) (looks : List (ℕ × ℕ)) (at goal : ℕ) : Type 0 where
  pub some_goal : goal ≢ 0
  pub is_goal : IsTrue (meaning.goal goal)
  pub stands : Looked looks (cell_word at) goal

-- the worker is one of this board, whose root goal stands at a place
pub record IsWorkerOf {R : Type 0} (meaning_of : R → Meaning) (b : Board R) (root goal : ℕ) (w : Worker R) : Type 0
  where
    pub seat : IsSeatOf meaning_of b w.seat
    pub root_shown : ShowsGoal (meaning_of b.setup.rules) (hands w.seat).looks root goal
    pub hints : w.hints ≡ b.setup.capacity
    pub next : w.next ≤ b.setup.capacity
    pub number : w.number < 64

-- and it holds no goal, as between two calls
pub record IsFreeWorkerOf {R : Type 0} (meaning_of : R → Meaning) (b : Board R) (root goal : ℕ) (w : Worker R) : Type 0
  where
    pub its : IsWorkerOf meaning_of b root goal w
    pub free : (hands w.seat).rights ≡ []

-- the seat looked, and no more; where it is alone, it found the words that it keeps
pub record OnlyLooked {R : Type 0} (v w : Hands R) : Type 0 where
  pub more : List (ℕ × ℕ)
  pub hands_are : w ≡ seen more v
  pub alone : AgreesAlone v more

-- what was seen once was seen
abbrev pub Later : List (ℕ × ℕ) → List (ℕ × ℕ) → Type 0
Later old new = (word found : ℕ) → Looked old word found → Looked new word found
