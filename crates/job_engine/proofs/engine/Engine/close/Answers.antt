-- The board that was closed is that of the query's search.
use Rattle.goal_board.specs.Seats.{hands}
use Rattle.job_engine.proofs.Closing.{closes_search}
use Rattle.job_engine.proofs.engine.Engine.close.Goals as goal

pub outcome_of-requires-clause-board : goal.outcome_of-requires-clause-board
outcome_of-requires-clause-board c = (
  c.args.self.scheduler.root,
  hands c.args.worker.seat,
  closes_search c.args.self (hands c.args.worker.seat) c.close.result c.requires.worker.its.root_shown.stands
      c.close.ensures,
)

pub returns-clause-gives : goal.returns-clause-gives
returns-clause-gives c =
    let its = closes_search c.args.self (hands c.args.worker.seat) c.close.result
    c.requires.worker.its.root_shown.stands c.close.ensures in
    record {
      board = c.close.result;
      its = its;
      is = c.outcome_of.ensures.outcome c.args.self.scheduler.root (hands c.args.worker.seat) its;
    }

pub returns-clause-finished : goal.returns-clause-finished
returns-clause-finished c =
    c.outcome_of.ensures.finished c.args.self.scheduler.root (hands c.args.worker.seat)
    (closes_search c.args.self (hands c.args.worker.seat) c.close.result c.requires.worker.its.root_shown.stands
    c.close.ensures)

pub returns-clause-full : goal.returns-clause-full
returns-clause-full c =
    c.outcome_of.ensures.full c.args.self.scheduler.root (hands c.args.worker.seat)
    (closes_search c.args.self (hands c.args.worker.seat) c.close.result c.requires.worker.its.root_shown.stands
    c.close.ensures)
