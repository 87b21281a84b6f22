-- What the closed board held is what the run gave, in the words of a run and of its note.
use Rattle.std.proofs.Common.{Some}
use Rattle.job_engine.specs.Searching.{query_of}
use Rattle.job_engine.proofs.Ending.{run_ends, is_noted}
use Rattle.job_engine.proofs.runs.end.Goals as goal

pub returns-clause-ends : goal.returns-clause-ends
returns-clause-ends c =
    run_ends (record { each = c.finishers_are_known.ensures.each; below = c.finishers_are_known.ensures.below })
    (query_of c.args.engine) c.args.engine.cells c.args.engine.capacity c.args.n
    c.close_board-outcome.result.0 (Some (c.args.engine.capacity, c.args.n, c.close_board-outcome.result.1)) c.close_board-outcome.ensures

pub returns-clause-noted : goal.returns-clause-noted
returns-clause-noted c =
    is_noted (query_of c.args.engine) c.args.engine.cells c.args.engine.capacity c.args.n c.close_board-outcome.result.0
    (Some (c.args.engine.capacity, c.args.n, c.close_board-outcome.result.1)) c.close_board-outcome.ensures
