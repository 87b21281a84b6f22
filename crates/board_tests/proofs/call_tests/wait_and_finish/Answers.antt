-- The child of 4 was seen finished.
use Rattle.goal_board.specs.Seats.{hands}
use Rattle.board_tests.proofs.Still.{promise_shown}
use Rattle.board_tests.proofs.call_tests.wait_and_finish.Goals as goal

pub finish_one-requires-clause-promise : goal.finish_one-requires-clause-promise
finish_one-requires-clause-promise g c κs =
    promise_shown c.args.board.now.setup.rules.limit c.args.board.now.setup.capacity
    (hands c.see_finished.new.seat).looks c.wait_on.new.right.goal
    c.see_finished.ensures.finished
