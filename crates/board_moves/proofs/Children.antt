-- A child that is awaited.
use Rattle.std.proofs.Common.{◌≡◌, ◌≢◌, ℕ, refl, arith}
use Rattle.board_rule.specs.Meaning.{Meaning}
use Rattle.board_rule.specs.Looks.{ShowsFinished}
use Rattle.board_rule.specs.declared.hands.Hands.{Hands}
use Rattle.goal_board.specs.declared.board.Right.{Right}
use Rattle.board_moves.specs.declared.progress.Progress.{Progress}
use Rattle.board_moves.specs.declared.progress.Progress.TheVariants as progress
use Rattle.board_moves.specs.Moves.{Proceeds, Awaits}

module _ {R : Type 0} (meaning : Meaning) (capacity : ℕ) where
  -- a child that found a cell: the turn goes on, and unless the right has a wait the child is shown finished
  pub awaited : (v : Hands R) (before : Right) (child : ℕ) (answer : Progress) (w : Hands R) (after : Right)
      → answer ≢ progress.Full → Awaits meaning capacity v before child answer w after
      → Proceeds (meaning.child before.goal) v before w after
      × (after.waits ≡ 0 → ShowsFinished meaning capacity w.looks child)
  awaited v before child (progress.Complete answer) w after fits t = (t.0, λ none. t.2.finished)
  awaited v before child progress.Waiting w after fits t = (t.0, λ none. let some = t.1 in absurd (omega arith))
  awaited v before child progress.Full w after fits t = absurd (fits refl)
