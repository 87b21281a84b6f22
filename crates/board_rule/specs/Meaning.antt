-- What the rules of a board mean.
use Rattle.std.specs.Prelude.{ℕ, Bool}

pub record Meaning : Type 1 where
  -- the words that may enter the cells
  pub entry : ℕ → Type 0
  -- the entries that are goals; the others are members
  pub goal : ℕ → Bool
  -- the second is a child of the first, a goal: it has to be finished first
  pub child : ℕ → ℕ → Type 0
  -- the second has to be in a cell before the first, a goal, is finished
  pub asked : ℕ → ℕ → Type 0
  -- a goal, the cost and the node of its answer
  pub answer : ℕ → ℕ → ℕ → Type 0
