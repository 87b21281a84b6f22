-- A seat has its job still after it looks, and after it puts a word in.
use Rattle.std.proofs.Common.{ℕ}
use Rattle.goal_board.specs.declared.board.Seat.{Seat}
use Rattle.word_table.specs.declared.outcome.Inserted.{Inserted}
use Rattle.goal_board.specs.Seats.{hands}
use Rattle.goal_board.specs.Calls.{Inserts}
use Rattle.board_moves.specs.declared.job.Job.{Job}
use Rattle.board_moves.specs.Moves.{OnlyLooks}
use Rattle.board_moves.proofs.OneChild.{right_looked, right_put}
use Rattle.goal_rules.specs.declared.rules.Rules.{Rules}
use Rattle.job_turns.specs.Searches.{rules_mean, IsSeat, HasJob}
use Rattle.job_turns.specs.declared.board_search.BoardSearch.{BoardSearch}

module _ (search : BoardSearch) (s t : Seat Rules) (job : Job) (is_seat : IsSeat search.board.now t)
    (has_job : HasJob search s job) where
  -- a seat has its job after it looks
  pub job_looked : OnlyLooks (hands s) (hands t) → HasJob search t job
  job_looked looks = record {
    its = has_job.its;
    seat = is_seat;
    right = right_looked (rules_mean search.board.now.setup.rules) search.board.now.setup.capacity job.right (hands s)
        (hands t) looks has_job.right;
  }

  -- and after it puts a word in, or finds no cell for it
  pub job_put : (word : ℕ) (answer : Inserted)
      → Inserts search.board.now.setup.capacity (hands s) word answer (hands t) → HasJob search t job
  job_put word answer inserts = record {
    its = has_job.its;
    seat = is_seat;
    right = right_put (rules_mean search.board.now.setup.rules) search.board.now.setup.capacity job.right (hands s) word
        answer (hands t) inserts has_job.right;
  }
