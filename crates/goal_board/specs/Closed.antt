-- What the words of a board say once no thread shares it any more.
use Rattle.std.specs.Prelude.{◌≡◌, ◌≢◌, ◌==◌, ℕ, zero, suc, ◌-◌, ◌^◌, ◌<◌, ◌≤◌, nat_le, List, [], ◌∷◌, ◌++◌, cond}
use Rattle.std.specs.Prelude.{Option, None, Some, IsTrue}
use Rattle.board_rule.specs.Meaning.{Meaning}
use Rattle.board_rule.specs.Words.{Mem}
use Rattle.goal_board.specs.declared.answers.Answer.{Answer}
use Rattle.goal_board.specs.declared.answers.Finished.{Finished}

-- the words of the taken cells at places below a number, in order
abbrev pub cells_below : Mem → ℕ → List ℕ
cells_below m zero = []
cells_below m (suc n) = cond (m.cell n == 0) (cells_below m n) (cells_below m n ++ m.cell n ∷ [])

-- the list with one item more where the head is closed
abbrev pub with_closed : {A : Type 0} → ℕ → List A → A → List A
with_closed head items item = cond (nat_le (2 ^ 63) head) (items ++ item ∷ []) items

-- the answer at a place
abbrev pub answer_at : Mem → ℕ → Answer
answer_at m p = record { cost = m.cost p; node = m.node p }

-- a goal with its answer and its worker, whose number plus 1 is the word
abbrev pub finished_with : (goal : ℕ) → Answer → (who : ℕ) → Finished
finished_with goal answer who = record { goal = goal; answer = answer; who = who - 1 }

-- the goal at a place, with its answer and its worker
abbrev pub finished_at : Mem → ℕ → Finished
finished_at m p = finished_with (m.cell p) (answer_at m p) (m.who p)

-- those at these places whose heads are closed
abbrev pub finished_below : Mem → ℕ → List Finished
finished_below m zero = []
finished_below m (suc n) = with_closed (m.head n) (finished_below m n) (finished_at m n)

-- each finished goal has the number of one of 64 workers, plus 1
abbrev pub HasWorkers : Mem → ℕ → Type 0
HasWorkers m capacity = (p : ℕ) → p < capacity → 2 ^ 63 ≤ m.head p → (1 ≤ m.who p) × (m.who p ≤ 64)

-- a goal that is ready stands at the place
pub record IsReadyAt (meaning : Meaning) (m : Mem) (p : ℕ) : Type 0 where
  pub some_goal : m.cell p ≢ 0
  pub is_goal : IsTrue (meaning.goal (m.cell p))
  pub ready : m.run p ≡ 0

-- the goal at the place, if it is ready
abbrev pub ReadsReady : Meaning → Mem → ℕ → Option ℕ → Type 0
ReadsReady meaning m p None = IsReadyAt meaning m p → ⊥
ReadsReady meaning m p (Some goal) = IsReadyAt meaning m p × (m.cell p ≡ goal)

-- the goal in the least place that is ready, or none where there is none
abbrev pub IsFirstReady : Meaning → Mem → ℕ → Option ℕ → Type 0
IsFirstReady meaning m capacity None = (p : ℕ) → p < capacity → IsReadyAt meaning m p → ⊥
IsFirstReady meaning m capacity (Some goal) = (p : ℕ) × (p < capacity) × (m.cell p ≡ goal) × IsReadyAt meaning m p
    × ((q : ℕ) → q < p → IsReadyAt meaning m q → ⊥)
