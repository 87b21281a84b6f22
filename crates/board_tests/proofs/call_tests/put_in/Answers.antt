-- An insert changes neither parts nor rights.
use Rattle.goal_board.specs.Seats.{hands}
use Rattle.board_tests.proofs.Still.{parts_stay, rights_stay}
use Rattle.board_tests.proofs.call_tests.put_in.Goals as goal

pub returns-clause-seat : goal.returns-clause-seat
returns-clause-seat g c =
    let capacity = c.args.board.now.setup.capacity in
    let before = hands c.args.seat.now in
    let after = hands c.insert.new.seat in
    record {
      of_board = c.insert.ensures.seat;
      rights = rights_stay capacity before c.args.word c.insert.result after c.insert.ensures.answer;
      parts = parts_stay capacity before c.args.word c.insert.result after c.insert.ensures.answer;
    }
