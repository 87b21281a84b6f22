-- The last worker has seen the end, so something was found that is no more to do.
use Rattle.goal_board.specs.Seats.{hands}
use Rattle.job_engine.proofs.Ending.{last_closes, last_run}
use Rattle.job_engine.proofs.runs.close_board.Goals as goal

pub outcome_of-requires-clause-board : goal.outcome_of-requires-clause-board
outcome_of-requires-clause-board c = (
  c.args.engine.scheduler.root,
  hands c.args.worker.seat,
  last_closes c.args.engine c.args._n c.args.worker c.requires c.close-board.result c.close-board.ensures,
)

pub returns : goal.returns
returns c =
    let e = c.args.engine in
    let v = hands c.args.worker.seat in
    let board = c.close-board.result in
    let its = last_closes e c.args._n c.args.worker c.requires board c.close-board.ensures in
    last_run e c.args._n c.args.worker c.requires board c.outcome_of.result its
    (c.outcome_of.ensures.outcome e.scheduler.root v its) (c.outcome_of.ensures.finished e.scheduler.root v its)
    (c.outcome_of.ensures.full e.scheduler.root v its) c.finished_count-finished.result
    c.finished_count-finished.ensures
