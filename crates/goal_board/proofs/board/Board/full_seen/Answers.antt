-- One look at the full word.
use Rattle.goal_board.proofs.Findings.{found_set, found_unset}
use Rattle.goal_board.proofs.AnswerFindings.{reads_full}
use Rattle.goal_board.proofs.board.Board.full_seen.Goals as goal

pub returns-clause-answer : goal.returns-clause-answer
returns-clause-answer g c = reads_full c.requires.over c.args.seat.now.awake c.look.ensures.told
    (found_set c.look.result) (found_unset c.look.result)
