-- The seat had no right before.
use Rattle.goal_board.specs.Seats.{hands}
use Rattle.board_tests.proofs.Still.{only_claimed}
use Rattle.board_tests.proofs.call_tests.claim_goal.Goals as goal

pub returns-clause-only : goal.returns-clause-only
returns-clause-only g c =
    only_claimed (g.R.GoalRules.meaning c.args.board.now.setup.rules) c.args.board.now.setup.capacity
    (hands c.args.seat.now)
    c.args.at c.in-Some.right (hands c.claim.new.seat) c.in-Some.ensures.answer c.requires.rights
