-- The right stays through further looks.
use Rattle.goal_board.specs.Seats.{hands}
use Rattle.board_tests.proofs.Still.{right_seen}
use Rattle.board_tests.proofs.call_tests.claim_in_vain.Goals as goal

pub returns-clause-right : goal.returns-clause-right
returns-clause-right g c =
    right_seen (g.R.GoalRules.meaning c.args.board.now.setup.rules) c.args.board.now.setup.capacity
    (hands c.args.seat.now)
    (hands c.find_busy.new.seat) c.find_busy.ensures.looks.0 c.args.right.now c.find_busy.ensures.looks.1
    c.requires.right
