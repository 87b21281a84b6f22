-- What fits on the first board fits in the capacity.
use Rattle.job_engine.proofs.Ending.{ends_within}
use Rattle.job_engine.proofs.searches.search_alone.Goals as goal

pub returns-then-is_done-clause-ends : goal.returns-then-is_done-clause-ends
returns-then-is_done-clause-ends c =
    ends_within c.args.query.now c.usual_cells-cells.result c.args.capacity 1 c.usual_cells-cells.ensures.1
    c.in_ok-outcome.outcome (c.is_done.ensures c.if-is_done.true) c.in_ok-outcome.ensures.ends
