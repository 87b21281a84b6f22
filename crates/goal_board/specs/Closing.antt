-- What a closed board has, and what is known of it by the seat that closed it.
use Rattle.std.specs.Prelude.{◌≡◌, ◌≢◌, ◌==◌, ℕ, ◌/◌, ◌^◌, ◌<◌, ◌≤◌, List, Bool, true, not, None}
use Rattle.std.specs.Slots.{slots_items}
use mathlib.Core.Option.{some}
use lib.ListN.{get_elem?}
use Rattle.board_rule.specs.Meaning.{Meaning}
use Rattle.board_rule.specs.Records.{Ended}
use Rattle.board_rule.specs.Words.{Mem, mem}
use Rattle.board_rule.specs.Looks.{ShowsFull}
use Rattle.board_rule.specs.Seats.{Among}
use Rattle.board_rule.specs.Soundness.{HoldsGoal, IsFull, IsRecorded, IsSound}
use Rattle.board_rule.specs.declared.hands.Hands.{Hands}
use Rattle.goal_board.specs.Closed.{cells_below, finished_below, answer_at, IsFirstReady}
use Rattle.goal_board.specs.declared.answers.Answer.{Answer}
use Rattle.goal_board.specs.declared.answers.Finished.{Finished}
use Rattle.goal_board.specs.declared.closing.ClosedBoard.{ClosedBoard}

-- its words
abbrev pub words_of : ClosedBoard → List ℕ
words_of board = slots_items board.words.words

-- its words, by what they are
abbrev pub mem_of : ClosedBoard → Mem
mem_of board = mem (words_of board)

-- the words of its taken cells, in the order of their places
abbrev pub cells_of : ClosedBoard → List ℕ
cells_of board = cells_below (mem_of board) board.capacity

-- its finished goals, in the order of their places
abbrev pub finished_of : ClosedBoard → List Finished
finished_of board = finished_below (mem_of board) board.capacity

-- some entry found every cell taken
abbrev pub is_full : ClosedBoard → Bool
is_full board = not ((mem_of board).full == 0)

-- the goal stands at the place, and is finished
pub record IsFinishedAt (board : ClosedBoard) (goal place : ℕ) : Type 0 where
  pub near : place < board.capacity
  pub stands : (mem_of board).cell place ≡ goal
  pub closed : 2 ^ 63 ≤ (mem_of board).head place

-- the goal is finished
abbrev pub HasFinished : ClosedBoard → ℕ → Type 0
HasFinished board goal = (place : ℕ) × IsFinishedAt board goal place

-- and this is its answer
abbrev pub HasAnswer : ClosedBoard → ℕ → Answer → Type 0
HasAnswer board goal answer =
    (place : ℕ) × IsFinishedAt board goal place × (answer ≡ answer_at (mem_of board) place)

-- the board had so many cells and was sound, and the seat had these hands
pub record ClosesWith {R : Type 0} (meaning_of : R → Meaning) (rules : R) (capacity : ℕ) (v : Hands R)
    (board : ClosedBoard) :
    Type 0 where
  pub same_capacity : board.capacity ≡ capacity
  pub views : List (Hands R)
  pub id : ℕ
  pub sound : IsSound (meaning_of rules) rules capacity (words_of board) views
  pub mine : get_elem? views id ≡ some v
  -- no wake-up is lost: where no goal is ready, every goal in the cells is finished
  pub none_ready : IsFirstReady (meaning_of rules) (mem_of board) capacity None → (p : ℕ) → p < capacity
      → HoldsGoal (meaning_of rules) capacity (mem_of board).cell p
      → 2 ^ 63 ≤ (mem_of board).head p
  -- what is finished stands in the seat's done, with its worker and its answer
  pub finished_by : (p : ℕ) → p < capacity → 2 ^ 63 ≤ (mem_of board).head p
      → (e : Ended) × Among v.done e × (e.place ≡ p)
      × IsRecorded capacity (mem_of board).head (mem_of board).cost (mem_of board).node (mem_of board).who e
  -- a goal that is registered with a child, which is then not finished, is not ready
  pub registered : (c q : ℕ) → c < capacity → Among (sound.by_kinds.waits.lists c) q → (mem_of board).run (q / 8) ≢ 0
  -- a look that found the full word set, and what a full board lacks
  pub filled : ShowsFull v.looks → is_full board ≡ true
  pub left_out : is_full board ≡ true → IsFull (meaning_of rules) capacity (mem_of board).cell
