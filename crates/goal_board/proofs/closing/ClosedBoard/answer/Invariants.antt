-- No place that was passed has the goal finished.
use Rattle.word_table.specs.Probing.{home_of}
use Rattle.word_table.proofs.Steps.{HasProbed}
use Rattle.goal_board.specs.Closing.{IsFinishedAt}
use Rattle.goal_board.proofs.closing.ClosedBoard.answer.Given as goal

abbrev pub invariant-loop-step : goal.invariant-loop-step
invariant-loop-step l = HasProbed l.self.capacity (home_of l.goal l.self.capacity) l.place l._step
    (λ p. IsFinishedAt l.self l.goal p → ⊥)
