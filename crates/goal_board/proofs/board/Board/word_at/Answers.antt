-- One look at a cell.
use Rattle.std.proofs.Common.{◌≡◌, refl, ◌∙◌}
use Rattle.goal_board.proofs.Findings.{reads_cell}
use Rattle.goal_board.proofs.Told.{looks_at}
use Rattle.goal_board.proofs.board.Board.word_at.Goals as goal

pub returns-then-found-eq0-clause-answer : goal.returns-then-found-eq0-clause-answer
returns-then-found-eq0-clause-answer g c =
    reads_cell c.requires.seat.over (looks_at c.cell_at.ensures c.look-found.ensures.told) c.if-found-eq0.true
    (λ word e. let no : ⊥ = cc in absurd no)

pub returns-else-found-eq0-clause-answer : goal.returns-else-found-eq0-clause-answer
returns-else-found-eq0-clause-answer g c =
    reads_cell c.requires.seat.over (looks_at c.cell_at.ensures c.look-found.ensures.told) refl
    (λ word e none. let same : c.look-found.result ≡ word = cc in c.if-found-eq0.false (same ∙ none))
