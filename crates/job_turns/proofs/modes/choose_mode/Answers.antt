-- The children of the goal are what the modes ask for.
use Rattle.goal_board.specs.Seats.{hands}
use Rattle.goal_space.specs.declared.goals.GoalKind.TheVariants.{OptE}
use Rattle.job_turns.proofs.Staying.{small_of}
use Rattle.job_turns.proofs.Chosen.{works_chosen}
use Rattle.job_turns.proofs.modes.choose_mode.Goals as goal

pub returns-clause-works : goal.returns-clause-works
returns-clause-works g c =
    let q = c.args.search.now.query.now in
    works_chosen q c.args.search.now.board.now.setup.capacity (small_of c.requires.at_work.has_job.its)
    (c.words_are_known.ensures.children q) (c.words_are_known.ensures.asked q) (OptE c.args.expr c.args.wanted)
    (λ e asks. asks)
    (hands c.args.turn.now.seat.now) c.args.turn.now.job.right c.requires.goal c.best_mode-found.result
    (hands c.best_mode-found.new.turn.seat.now) c.best_mode-found.new.turn.job.right c.progress_of.result
    c.best_mode-found.ensures.chooses c.progress_of.ensures
