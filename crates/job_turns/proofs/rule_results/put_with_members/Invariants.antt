-- The results with the members up to one bound were put in.
use Rattle.goal_board.specs.Seats.{hands}
use Rattle.board_moves.proofs.Ascending.{left_above}
use Rattle.job_turns.specs.Searches.{HasJob}
use Rattle.job_turns.specs.Works.{HasPut}
use Rattle.job_turns.proofs.Bound.{IsBroughtUpTo}
use Rattle.job_turns.proofs.rule_results.put_with_members.Given as goal

abbrev pub invariant-loop-word : goal.invariant-loop-word
invariant-loop-word l = record {
  has_job : HasJob l.search l.seat l.job;
  put : HasPut l.search.query.now l.search.board.now.setup.capacity (hands l.initial.seat) l.job.right
      (IsBroughtUpTo l.search.query.now l.rule l.e l.fn.left l.before) (hands l.seat);
}

abbrev pub decreases-loop-word : goal.decreases-loop-word
decreases-loop-word l = left_above l.before
