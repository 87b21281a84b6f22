-- A child has a word.
use Rattle.job_turns.proofs.Staying.{small_of}
use Rattle.job_turns.proofs.over_query.await_goal.Goals as goal

pub word_of_goal-requires : goal.word_of_goal-requires
word_of_goal-requires g c =
    let child = c.requires.child in (c.words_are_known.ensures.words c.args.search.now.query.now
    (small_of c.requires.at_work.has_job.its) child.0 c.args.child c.args.turn.now.job.right.goal child.1 child.2).1
