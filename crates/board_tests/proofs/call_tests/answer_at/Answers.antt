-- A look for an answer changes neither rights nor parts.
use Rattle.goal_board.specs.Seats.{hands}
use Rattle.board_tests.proofs.Still.{rights_read, parts_read}
use Rattle.board_tests.proofs.call_tests.answer_at.Goals as goal

pub returns : goal.returns
returns g c =
    let meaning = g.R.GoalRules.meaning c.args.board.now.setup.rules in
    let capacity = c.args.board.now.setup.capacity in
    let before = hands c.args.seat.now in
    let after = hands c.answer.new.seat in
    record {
      seat = record {
        of_board = c.answer.ensures.seat;
        rights = rights_read meaning capacity before c.args.at c.answer.result after c.answer.ensures.answer;
        parts = parts_read meaning capacity before c.args.at c.answer.result after c.answer.ensures.answer;
      };
    }
