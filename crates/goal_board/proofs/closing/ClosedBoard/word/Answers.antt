use Rattle.std.proofs.Common.{sym}
use Rattle.goal_board.specs.Closing.{words_of}
use Rattle.goal_board.proofs.ClosedLemmas.{word_read}
use Rattle.goal_board.proofs.closing.ClosedBoard.word.Goals as goal

pub returns : goal.returns
returns c = sym (word_read (words_of c.args.self.now) c.args.at _ c.word.ensures)
