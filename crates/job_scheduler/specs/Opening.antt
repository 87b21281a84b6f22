-- How a worker begins.
use Rattle.std.specs.Prelude.{◌≡◌, ℕ, ◌+◌, ◌*◌, [], ◌∷◌, Some, replicate, slice_set}
use Rattle.board_rule.specs.Words.{cell_word}
use Rattle.board_rule.specs.declared.hands.Hands.{Hands}

-- the first worker has put in the root goal and done nothing else; all other words of the board are 0, so the goal is
-- ready
pub record IsOpening {R : Type 0} (capacity root goal : ℕ) (v : Hands R) : Type 0 where
  pub parts : v.parts ≡ 64
  pub puts : v.puts ≡ goal ∷ []
  pub claims : v.claims ≡ []
  pub suspensions : v.suspensions ≡ []
  pub done : v.done ≡ []
  pub kept : v.alone ≡ Some (slice_set (replicate (14 * capacity + 1) 0) (cell_word root) goal)
