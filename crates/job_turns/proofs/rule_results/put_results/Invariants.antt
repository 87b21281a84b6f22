-- The results below a number were put in.
use Rattle.goal_board.specs.Seats.{hands}
use Rattle.job_turns.specs.Searches.{HasJob}
use Rattle.job_turns.specs.Results.{IsBroughtBelow}
use Rattle.job_turns.specs.Works.{HasPut}
use Rattle.job_turns.proofs.rule_results.put_results.Given as goal

abbrev pub invariant-loop-n : goal.invariant-loop-n
invariant-loop-n l = record {
  has_job : HasJob l.search l.seat l.job;
  put : HasPut l.search.query.now l.search.board.now.setup.capacity (hands l.initial.seat) l.job.right
      (IsBroughtBelow l.search.query.now l.binding.rule l.binding.e l.binding.bound l.n) (hands l.seat);
}
