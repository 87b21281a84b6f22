-- A claim in vain only looks.
use Rattle.board_tests.proofs.call_tests.find_busy.Goals as goal

pub returns-clause-looks : goal.returns-clause-looks
returns-clause-looks g c = (c.in-None.ensures.answer.more, c.in-None.ensures.answer.hands_are)
