-- The child is finished with its answer, or the goal waits.
use Rattle.goal_board.specs.Seats.{hands}
use Rattle.job_turns.proofs.Staying.{small_of}
use Rattle.job_turns.proofs.Told.{known_child}
use Rattle.job_turns.proofs.known_best.await_best.Goals as goal

pub returns-in-Complete-clause-chooses : goal.returns-in-Complete-clause-chooses
returns-in-Complete-clause-chooses g c =
    let b = c.args.search.now.board.now in
    known_child c.args.search.now.query.now b.setup.capacity (small_of c.requires.at_work.has_job.its)
    (c.answers_are_known.ensures c.args.search.now.query.now) (hands c.args.turn.now.seat.now) c.args.turn.now.job.right
    c.args.child
    c.requires.child c.in-Complete.answer
    (hands c.await_word.new.turn.seat.now) c.await_word.new.turn.job.right c.in-Complete.ensures.awaits c.best_of.result
    c.best_of.ensures
